-- The binding of an array, resolved once for all its elements.
use Rattle.std.specs.Prelude.{◌≡◌, ℕ, List, [], Ok, Some}
use Rattle.mo_scope.specs.Frames.{sources_of}
use Rattle.mo_scope.specs.Names.{component_entered}
use Rattle.mo_scope.specs.Parts.{Picked, picked}
use Rattle.mo_scope.specs.Sights.{scope_at}
use Rattle.mo_scope.specs.Worlds.{World, frame_at, frames_of, table_in}
use Rattle.mo_scope.specs.declared.row.Member.{Member as MemberAt}
use Rattle.mo_names.specs.Sights.{IsMember, member_of}
use Rattle.mo_eval.specs.Components.{binding_of}
use Rattle.mo_eval.specs.Keeping.{IsBinding}
use Rattle.mo_eval.specs.Seen.{resolved_seen}
use Rattle.mo_eval.specs.Values.{most_references, resolved}
use Rattle.mo_equations.specs.declared.desk.ArrayBinding.{ArrayBinding}
use Rattle.mo_equations.specs.declared.desk.ValueBinding.{ValueBinding}
use Rattle.mo_equations.specs.declared.leaves.Leaves.{Leaves}
use Rattle.mo_equations.specs.declared.standing.Asked.{Asked}
use Rattle.mo_equations.specs.steps.Resolutions.{IsResolution}

-- A resolved binding of a component: of each of its elements it is what is resolved of the expression that is picked.
pub record IsArrayBinding (world : World) (leaves : Leaves) (binding : ArrayBinding) : Type 0 where
  pub member : IsMember world binding.member
  pub resolution : IsResolution world leaves binding.resolution
  pub is : (index : List ℕ) (picked : Picked) → binding_of (table_in world) (member_of (frames_of world) binding.member) index ≡ Ok (Some picked) →
      resolved (table_in world) most_references picked.scope picked.value ≡ Ok (resolved_seen (frames_of world) binding.resolution.resolved)

-- what binds a component, resolved for its value
pub record IsValueBinding (world : World) (binding : ValueBinding) : Type 0 where
  pub member : IsMember world binding.member
  pub is : IsBinding world most_references binding.member binding.bound

-- the frame is that of an element of the component
pub record IsElementOf (world : World) (component : MemberAt) (frame : ℕ) : Type 0 where
  pub member : IsMember world component
  pub index : List ℕ
  pub entered : component_entered (table_in world) (member_of (frames_of world) component) index ≡ Ok (frame_at world frame)

-- what is asked of is the expression that the sources of the frame give for its binding
pub record IsChosenBy (world : World) (frame : ℕ) (asked : Asked) : Type 0 where
  pub pending : List ℕ
  pub is : picked (table_in world) (sources_of (frame_at world frame)) [] ≡ Some (record { value = asked.value.now; scope = scope_at world asked.at.now; pending = pending })
