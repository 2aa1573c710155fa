-- The binding of a component, resolved for one of its elements, is that of all of them.
use Rattle.std.proofs.Common.{◌≡◌, ℕ, List, None, Some, Ok, refl, ap, sym, ◌∙◌, subst}
use Rattle.mo_scope.specs.Names.{Child, child_of_member}
use Rattle.mo_scope.specs.Parts.{Picked, picked_here}
use Rattle.mo_scope.specs.Worlds.{World, Grows, frames_of, table_in}
use Rattle.mo_scope.specs.declared.row.Member.{Member as MemberAt}
use Rattle.mo_names.specs.Sights.{IsMember, member_of}
use Rattle.mo_names.proofs.Later.{member_later}
use Rattle.mo_eval.specs.Components.{binding_of}
use Rattle.mo_eval.specs.Keeping.{AreLayers, IsBinding}
use Rattle.mo_eval.specs.Seen.{AreThere, resolved_seen}
use Rattle.mo_eval.specs.Values.{resolved_for_value}
use Rattle.mo_eval.specs.declared.reader.Bound.{Bound}
use Rattle.mo_eval.specs.declared.virtuals.Resolved.{Resolved}
use Rattle.mo_eval.proofs.Grown.{same_table}
use Rattle.mo_eval.proofs.SamePicks.{bare_pick, same_binding}

module _ (old new : World) (grows : Grows old new) (member : MemberAt) (is : IsMember old member) where
  -- what is asked of the binding in a world that has grown
  pub same_bound : (index : List ℕ) → binding_of (table_in new) (member_of (frames_of new) member) index ≡ binding_of (table_in old) (member_of (frames_of old) member) index
  same_bound index =
      ap (λ one. binding_of (table_in new) one index) (member_later old new member grows is)
      ∙ ap (λ table. binding_of table (member_of (frames_of old) member) index) (same_table old new grows)

  pub bound_at : (index : List ℕ) (child : Child) (picked : Picked) → child_of_member (table_in old) (member_of (frames_of old) member) index ≡ Ok child → picked_here child.sources ≡ Some picked →
      binding_of (table_in new) (member_of (frames_of new) member) index ≡ Ok (Some picked)
  bound_at index child picked found some = same_bound index ∙ rw (found, some) refl

  pub is_binding : (left : ℕ) (index : List ℕ) (picked : Picked) → binding_of (table_in old) (member_of (frames_of old) member) index ≡ Ok (Some picked) → (resolved : Resolved) → AreThere new resolved.virtuals →
      resolved_for_value (table_in old) left picked.scope picked.value ≡ Ok (resolved_seen (frames_of new) resolved) → IsBinding new left member (record { resolved = resolved; layers = None })
  is_binding left index picked bound resolved there told = record {
    there = there;
    layers = tt;
    is = λ another other at.
        let same : bare_pick other ≡ bare_pick picked = same_binding (table_in old) (member_of (frames_of old) member) another index other picked (sym (same_bound another) ∙ at) bound in
        ap (λ table. resolved_for_value table left other.scope other.value) (same_table old new grows)
        ∙ (ap (λ (it : Picked). resolved_for_value (table_in old) left it.scope it.value) same ∙ told);
  }

-- a binding with its layers
pub with_layers_still : (world : World) (left : ℕ) (member : MemberAt) (found bound : Bound) → bound.resolved ≡ found.resolved → AreLayers bound → IsBinding world left member found → IsBinding world left member bound
with_layers_still world left member found bound same layers one = record {
  there = subst (λ (r : Resolved). AreThere world r.virtuals) (sym same) one.there;
  layers = layers;
  is = λ index picked at. one.is index picked at ∙ ap (λ (r : Resolved). Ok (resolved_seen (frames_of world) r)) (sym same);
}
