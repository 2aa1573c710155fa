-- The least offsets of a model are one thing: their lists are those of each right report, and of each other.
use Rattle.std.proofs.Common.{◌≡◌, ◌≢◌, ℕ, suc, ◌-◌, ◌<◌, ◌≤◌, List, Option, Some, None, get_or, refl, sym, ◌∙◌, subst, arith}
use Rattle.mo_flat.specs.declared.model.FlatModel.{FlatModel}
use Rattle.mo_incidence.specs.declared.findings.Offsets.{Offsets}
use Rattle.mo_incidence.specs.Signature.{Signature, equations}
use Rattle.mo_incidence.specs.Assignment.{IsDeficit}
use Rattle.mo_incidence.specs.Offsets.{c_of, d_of, pairs_of}
use Rattle.mo_incidence.specs.Model.{incidence_of}
use Rattle.mo_incidence.proofs.Transversals.{one_transversal}
use Rattle.mo_report.specs.declared.report.Report.{Report}
use Rattle.mo_report.specs.Right.{AreLeastOffsets, IsRightFor, IsRightReport, singular, underdetermined, square}
use Rattle.mo_report.specs.Same.{offset_lists}
use Rattle.mo_report.proofs.Once.{no_deficit_holds, same_numbers}
use Rattle.mo_front.specs.Least.{IsLeastFor, IsLeastOf, least_offsets, left_out}

module _ (g : Signature) (o p : Offsets) (a : AreLeastOffsets g o) (b : AreLeastOffsets g p) where
  same_c : o.c.items ≡ p.c.items
  same_c = same_numbers o.c.items p.c.items (a.equations_all ∙ sym b.equations_all) (λ i l.
      let il : i < equations g = omega (arith, a.equations_all, l) in
      let under = (a.least.least.below (c_of p) (d_of p) b.least.admissible).equation i il in
      let over = (b.least.least.below (c_of o) (d_of o) a.least.admissible).equation i il in
      omega (arith, under, over))

  same_d : o.d.items ≡ p.d.items
  same_d = same_numbers o.d.items p.d.items (a.unknowns_all ∙ sym b.unknowns_all) (λ i l.
      let il : suc i ≤ g.unknowns = omega (arith, a.unknowns_all, l) in
      let back : suc i - 1 ≡ i = omega arith in
      let under = (a.least.least.below (c_of p) (d_of p) b.least.admissible).unknown (suc i) (omega arith) il in
      let over = (b.least.least.below (c_of o) (d_of o) a.least.admissible).unknown (suc i) (omega arith) il in
      let low : get_or o.d.items i 0 ≤ get_or p.d.items i 0 = rw back at under in
      let high : get_or p.d.items i 0 ≤ get_or o.d.items i 0 = rw back at over in
      omega (arith, low, high))

  same_pairs : o.pairs.items ≡ p.pairs.items
  same_pairs = same_numbers o.pairs.items p.pairs.items (a.pairs_all ∙ sym b.pairs_all) (λ i l.
      one_transversal g (c_of o) (d_of o) (pairs_of o) (pairs_of p) a.tight a.covers a.sequence
      (rw (same_c, same_d) b.tight) b.covers (rw (same_c, same_d) b.sequence) i (omega (arith, a.pairs_all, l)))

  same_lists : offset_lists (Some o) ≡ offset_lists (Some p)
  same_lists = rw (same_c, same_d, same_pairs) refl

none_and_some : (g : Signature) (deficient mentioned : List ℕ) (k : ℕ) (o : Offsets) → k ≢ 0 → IsDeficit g deficient mentioned k → AreLeastOffsets g o → ⊥
none_and_some g deficient mentioned k o some is they = no_deficit_holds g (c_of o) (d_of o) (pairs_of o) they.tight they.covers deficient mentioned k some is

one_for : (g : Signature) (o p : Option Offsets) → IsLeastFor g o → IsLeastFor g p → offset_lists o ≡ offset_lists p
one_for g None None (left_out deficient mentioned k some is) (left_out others also n some' is') = refl
one_for g None (Some p) (left_out deficient mentioned k some is) (least_offsets b) = absurd (none_and_some g deficient mentioned k p some is b)
one_for g (Some o) None (least_offsets a) (left_out deficient mentioned k some is) = absurd (none_and_some g deficient mentioned k o some is a)
one_for g (Some o) (Some p) (least_offsets a) (least_offsets b) = same_lists g o p a b

pub one_least : (m : FlatModel) (o p : Option Offsets) → IsLeastOf m o → IsLeastOf m p → offset_lists o ≡ offset_lists p
one_least m = one_for (incidence_of m)

right_for : (g : Signature) (r : Report) → IsRightFor g r → IsLeastFor g r.offsets
right_for g r (singular deficit k some deficit_is is none orders loose parts) = subst (IsLeastFor g) (sym none) (left_out deficit.equations.items deficit.unknowns.items k some is)
right_for g r (underdetermined offsets less has loose parts) = subst (IsLeastFor g) (sym has.given) (least_offsets has.least)
right_for g r (square offsets all has loose parts) = subst (IsLeastFor g) (sym has.given) (least_offsets has.least)

-- the offsets of a right report are the least ones
pub right_least : (m : FlatModel) (r : Report) → IsRightReport m r → IsLeastOf m r.offsets
right_least m r right = right_for (incidence_of m) r right.found
