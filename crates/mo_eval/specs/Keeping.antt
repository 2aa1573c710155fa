-- What a reader keeps of components between its calls.
--
-- A value is kept for an element, a condition and dimensions for a component, with the number of references that were left when they were
-- found. They are used where as many are left.
use Rattle.std.specs.Prelude.{◌≡◌, ℕ, IfSome, List, Ok, Some, slice_get}
use Rattle.mo_scope.specs.Frames.{Frame}
use Rattle.mo_scope.specs.Parts.{Picked}
use Rattle.mo_scope.specs.Worlds.{World, frames_of, table_in}
use Rattle.mo_scope.specs.declared.row.Member.{Member}
use Rattle.mo_names.specs.Sights.{IsMember, member_of}
use Rattle.mo_eval.specs.Components.{binding_of}
use Rattle.mo_eval.specs.declared.reader.KeptBinding.{KeptBinding}
use Rattle.mo_eval.specs.declared.reader.KeptDims.{KeptDims}
use Rattle.mo_eval.specs.declared.reader.KeptThere.{KeptThere}
use Rattle.mo_eval.specs.declared.reader.KeptValue.{KeptValue}
use Rattle.mo_eval.specs.declared.reader.Reader.{Reader}
use Rattle.mo_values.specs.Asked.{IsLayered}
use Rattle.mo_eval.specs.declared.reader.Bound.{Bound}
use Rattle.mo_eval.specs.Virtuals.{Resolved}
use Rattle.mo_eval.specs.Seen.{AreThere, element_seen, resolved_seen}
use Rattle.mo_eval.specs.Heights.{IsValueAt}
use Rattle.mo_eval.specs.Values.{component_dims, resolved_for_value, there_of}

-- the value of an element of a component that exists
pub record IsValueKept (world : World) (kept : KeptValue) : Type 0 where
  pub member : IsMember world kept.element.member
  pub is : IsValueAt (table_in world) kept.height (element_seen (frames_of world) kept.element) kept.known

pub record IsThereKept (world : World) (kept : KeptThere) : Type 0 where
  pub member : IsMember world kept.member
  pub is : there_of (table_in world) kept.left (member_of (frames_of world) kept.member) ≡ Ok kept.there

pub record AreDimsKept (world : World) (kept : KeptDims) : Type 0 where
  pub member : IsMember world kept.member
  pub are : component_dims (table_in world) kept.left (member_of (frames_of world) kept.member) ≡ Ok kept.dims

-- the layers that are known of a binding are those of its expression
abbrev pub AreLayers : Bound → Type 0
AreLayers bound = IfSome bound.layers (IsLayered bound.resolved.expression)

abbrev pub bound_seen : List Frame → Bound → Resolved
bound_seen frames bound = resolved_seen frames bound.resolved

-- A resolved binding of a component: of each of its elements it is what is resolved of the expression that is picked.
pub record IsBinding (world : World) (left : ℕ) (member : Member) (bound : Bound) : Type 0 where
  pub there : AreThere world bound.resolved.virtuals
  pub layers : AreLayers bound
  pub is : (index : List ℕ) (picked : Picked) → binding_of (table_in world) (member_of (frames_of world) member) index ≡ Ok (Some picked) →
      resolved_for_value (table_in world) left picked.scope picked.value ≡ Ok (bound_seen (frames_of world) bound)

pub record IsBindingKept (world : World) (kept : KeptBinding) : Type 0 where
  pub member : IsMember world kept.member
  pub is : (bound : Bound) → kept.bound ≡ Some bound → IsBinding world kept.left kept.member bound

-- All that a reader keeps is what elements and components have.
pub record IsKept (world : World) (reader : Reader) : Type 0 where
  pub values : (k : ℕ) (kept : KeptValue) → slice_get reader.values k ≡ Some kept → IsValueKept world kept
  pub conditions : (k : ℕ) (kept : KeptThere) → slice_get reader.conditions k ≡ Some kept → IsThereKept world kept
  pub dims : (k : ℕ) (kept : KeptDims) → slice_get reader.dims k ≡ Some kept → AreDimsKept world kept
  pub bindings : (k : ℕ) (kept : KeptBinding) → slice_get reader.bindings.items k ≡ Some kept → IsBindingKept world kept
