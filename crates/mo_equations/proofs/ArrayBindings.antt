-- What is resolved of the binding of an array is the same in later worlds, and for each of its elements.
use Rattle.std.proofs.Common.{◌≡◌, ℕ, List, [], Ok, Some, ap, sym, ◌∙◌}
use Rattle.mo_scope.specs.declared.row.Member.{Member as MemberAt}
use Rattle.mo_syntax.specs.declared.expr.Expr.{Expr}
use Rattle.mo_scope.specs.Frames.{Scope, sources_of}
use Rattle.mo_scope.specs.Parts.{Picked, picked}
use Rattle.mo_scope.specs.Rows.{Table}
use Rattle.mo_scope.specs.Worlds.{World, Grows, frame_at, frames_of, table_in}
use Rattle.mo_names.specs.Sights.{IsMember, member_of}
use Rattle.mo_names.proofs.Later.{is_member_later, member_later}
use Rattle.mo_eval.specs.Components.{binding_of}
use Rattle.mo_eval.specs.Keeping.{AreLayers, bound_seen}
use Rattle.mo_eval.specs.Seen.{AreThere, resolved_seen}
use Rattle.mo_eval.specs.Values.{most_references, resolved, resolved_for_value}
use Rattle.mo_eval.specs.declared.virtuals.Resolved.{Resolved as ResolvedAt}
use Rattle.mo_eval.proofs.FrameBound.{picked_by_frame}
use Rattle.mo_eval.proofs.Grown.{binding_still, same_table, same_virtuals}
use Rattle.mo_eval.proofs.SamePicks.{bare_pick, same_binding}
use Rattle.mo_equations.specs.declared.desk.ArrayBinding.{ArrayBinding}
use Rattle.mo_equations.specs.declared.desk.Resolution.{Resolution}
use Rattle.mo_equations.specs.declared.desk.ValueBinding.{ValueBinding}
use Rattle.mo_equations.specs.declared.leaves.Leaves.{Leaves}
use Rattle.mo_equations.specs.steps.Arrays.{IsArrayBinding, IsElementOf, IsValueBinding}
use Rattle.mo_equations.specs.steps.Resolutions.{IsResolution}
use Rattle.mo_equations.specs.steps.Standing.{tree_in}
use Rattle.mo_equations.proofs.ResolvedOnce.{resolution_later}

-- what is asked of the binding in a later world
same_bound : (u v : World) (member : MemberAt) (index : List ℕ) → Grows u v → IsMember u member →
    binding_of (table_in v) (member_of (frames_of v) member) index ≡ binding_of (table_in u) (member_of (frames_of u) member) index
same_bound u v member index grows is =
    ap (λ one. binding_of (table_in v) one index) (member_later u v member grows is)
    ∙ ap (λ table. binding_of table (member_of (frames_of u) member) index) (same_table u v grows)

still_bound : (u v : World) (leaves : Leaves) (binding : ArrayBinding) → Grows u v → IsArrayBinding u leaves binding → (index : List ℕ) (picked : Picked) → binding_of (table_in v) (member_of (frames_of v) binding.member) index ≡ Ok (Some picked) →
    resolved (table_in v) most_references picked.scope picked.value ≡ Ok (resolved_seen (frames_of v) binding.resolution.resolved)
still_bound u v leaves binding grows one index picked at =
    ap (λ table. resolved table most_references picked.scope picked.value) (same_table u v grows)
    ∙ (one.is index picked (sym (same_bound u v binding.member index grows one.member) ∙ at)
    ∙ ap (λ virtuals. Ok (record { expression = binding.resolution.resolved.expression; virtuals = virtuals })) (sym (same_virtuals u v grows binding.resolution.resolved.virtuals one.resolution.there)))

pub array_binding_later : (u v : World) (before after : Leaves) (binding : ArrayBinding) → Grows u v → tree_in v after ≡ tree_in u before → IsArrayBinding u before binding → IsArrayBinding v after binding
array_binding_later u v before after binding grows same one = record {
  member = is_member_later u v binding.member grows one.member;
  resolution = resolution_later u v before after binding.resolution grows same one.resolution;
  is = still_bound u v before binding grows one;
}

-- where more variables were asked of
pub array_binding_with : (u v : World) (before after : Leaves) (binding : ArrayBinding) (resolution : Resolution) → Grows u v → IsArrayBinding u before binding → IsResolution v after resolution →
    resolution.resolved ≡ binding.resolution.resolved → IsArrayBinding v after (record binding { resolution = resolution })
array_binding_with u v before after binding resolution grows one is same = record {
  member = is_member_later u v binding.member grows one.member;
  resolution = is;
  is = λ index picked at. still_bound u v before binding grows one index picked at ∙ ap (λ (r : ResolvedAt). Ok (resolved_seen (frames_of v) r)) (sym same);
}

-- what is asked of what binds one element is asked of what binds any
same_for_all : {A : Type 0} (u v : World) (component : MemberAt) (ask : Table → Scope → Expr → A) (frame : ℕ) (chosen : Picked) → Grows u v → IsElementOf u component frame → picked (table_in u) (sources_of (frame_at u frame)) [] ≡ Some chosen →
    (index : List ℕ) (other : Picked) → binding_of (table_in v) (member_of (frames_of v) component) index ≡ Ok (Some other) → ask (table_in v) other.scope other.value ≡ ask (table_in u) chosen.scope chosen.value
same_for_all u v component ask frame chosen grows element is index other at =
    let bound = picked_by_frame (table_in u) (member_of (frames_of u) component) element.index (frame_at u frame) chosen element.entered is in
    let same : bare_pick other ≡ bare_pick chosen = same_binding (table_in u) (member_of (frames_of u) component) index element.index other chosen (sym (same_bound u v component index grows element.member) ∙ at) bound in
    ap (λ table. ask table other.scope other.value) (same_table u v grows)
    ∙ ap (λ (it : Picked). ask (table_in u) it.scope it.value) same

-- what is resolved for one element is what is resolved for all
pub array_binding_made : (u v : World) (leaves : Leaves) (binding : ArrayBinding) (frame : ℕ) (chosen : Picked) → Grows u v → IsElementOf u binding.member frame → picked (table_in u) (sources_of (frame_at u frame)) [] ≡ Some chosen →
    IsResolution v leaves binding.resolution → resolved (table_in u) most_references chosen.scope chosen.value ≡ Ok (resolved_seen (frames_of v) binding.resolution.resolved) →
    IsArrayBinding v leaves binding
array_binding_made u v leaves binding frame chosen grows element is resolution told = record {
  member = is_member_later u v binding.member grows element.member;
  resolution = resolution;
  is = λ index other at. same_for_all u v binding.member (λ table. resolved table most_references) frame chosen grows element is index other at ∙ told;
}

pub value_binding_made : (u v : World) (binding : ValueBinding) (frame : ℕ) (chosen : Picked) → Grows u v → IsElementOf u binding.member frame → picked (table_in u) (sources_of (frame_at u frame)) [] ≡ Some chosen →
    AreThere v binding.bound.resolved.virtuals → AreLayers binding.bound → resolved_for_value (table_in u) most_references chosen.scope chosen.value ≡ Ok (bound_seen (frames_of v) binding.bound) →
    IsValueBinding v binding
value_binding_made u v binding frame chosen grows element is there layers told = record {
  member = is_member_later u v binding.member grows element.member;
  is = record {
    there = there;
    layers = layers;
    is = λ index other at. same_for_all u v binding.member (λ table. resolved_for_value table most_references) frame chosen grows element is index other at ∙ told;
  };
}

pub value_binding_later : (u v : World) (binding : ValueBinding) → Grows u v → IsValueBinding u binding → IsValueBinding v binding
value_binding_later u v binding grows one = record {
  member = is_member_later u v binding.member grows one.member;
  is = binding_still u v grows most_references binding.member one.member binding.bound one.is;
}

-- for an element of that array
pub resolved_for_element : (u : World) (leaves : Leaves) (binding : ArrayBinding) (frame : ℕ) (chosen : Picked) → IsArrayBinding u leaves binding → IsElementOf u binding.member frame →
    picked (table_in u) (sources_of (frame_at u frame)) [] ≡ Some chosen → resolved (table_in u) most_references chosen.scope chosen.value ≡ Ok (resolved_seen (frames_of u) binding.resolution.resolved)
resolved_for_element u leaves binding frame chosen one element is =
    one.is element.index chosen (picked_by_frame (table_in u) (member_of (frames_of u) binding.member) element.index (frame_at u frame) chosen element.entered is)

pub value_for_element : (u : World) (binding : ValueBinding) (frame : ℕ) (chosen : Picked) → IsValueBinding u binding → IsElementOf u binding.member frame →
    picked (table_in u) (sources_of (frame_at u frame)) [] ≡ Some chosen → resolved_for_value (table_in u) most_references chosen.scope chosen.value ≡ Ok (bound_seen (frames_of u) binding.bound)
value_for_element u binding frame chosen one element is =
    one.is.is element.index chosen (picked_by_frame (table_in u) (member_of (frames_of u) binding.member) element.index (frame_at u frame) chosen element.entered is)
