-- A flat model has one right report.
use Rattle.std.proofs.Common.{◌≡◌, ◌≢◌, ℕ, suc, ◌+◌, ◌-◌, ◌<◌, ◌≤◌, List, [], Option, Some, None, get_or, refl, sym, ap, ◌∙◌, arith}
use Rattle.mo_graph.specs.Counting.{sum_below}
use Rattle.mo_graph.proofs.Unique.{order_unique}
use Rattle.mo_flat.specs.declared.model.FlatModel.{FlatModel}
use Rattle.mo_incidence.specs.declared.findings.Offsets.{Offsets}
use Rattle.mo_incidence.specs.declared.findings.Deficit.{Deficit}
use Rattle.mo_incidence.specs.Signature.{Signature, equations}
use Rattle.mo_incidence.specs.Assignment.{ListsWhere, IsDeficit, IsUndetermined, IsDeficient, IsMentionedInDeficit}
use Rattle.mo_incidence.specs.Offsets.{sum_unknowns, c_of, d_of, pairs_of}
use Rattle.mo_incidence.specs.Reasons.{AreReasonsOf}
use Rattle.mo_incidence.specs.Model.{incidence_of}
use Rattle.mo_incidence.specs.Blocks.{Needs, AreBlocksInOrder, numbers_in}
use Rattle.mo_incidence.specs.Dummies.{dummies_of, states_of}
use Rattle.mo_incidence.proofs.Transversals.{one_transversal}
use Rattle.mo_report.specs.declared.report.Report.{Report}
use Rattle.mo_report.specs.Right.{index_of, AreLeastOffsets, AreOrdersAt, HasOffsets, HasSquareParts, HasNoSquareParts, IsRightFor, singular, underdetermined, square, IsRightReport}
use Rattle.mo_report.specs.Same.{deficit_lists, offset_lists, SaySame}
use Rattle.mo_report.proofs.Once.{same_numbers, same_listed, no_deficit_holds, same_reasons, one_entry}

-- ---- offsets

module _ (g : Signature) (o p : Offsets) (a : AreLeastOffsets g o) (b : AreLeastOffsets g p) where
  same_c : o.c.items ≡ p.c.items
  same_c = same_numbers o.c.items p.c.items (a.equations_all ∙ sym b.equations_all) (λ i l.
      let il : i < equations g = omega (arith, a.equations_all, l) in
      let under = (a.least.least.below (c_of p) (d_of p) b.least.admissible).equation i il in
      let over = (b.least.least.below (c_of o) (d_of o) a.least.admissible).equation i il in
      omega (arith, under, over))

  same_d : o.d.items ≡ p.d.items
  same_d = same_numbers o.d.items p.d.items (a.unknowns_all ∙ sym b.unknowns_all) (λ i l.
      let il : suc i ≤ g.unknowns = omega (arith, a.unknowns_all, l) in
      let back : suc i - 1 ≡ i = omega arith in
      let under = (a.least.least.below (c_of p) (d_of p) b.least.admissible).unknown (suc i) (omega arith) il in
      let over = (b.least.least.below (c_of o) (d_of o) a.least.admissible).unknown (suc i) (omega arith) il in
      let low : get_or o.d.items i 0 ≤ get_or p.d.items i 0 = rw back at under in
      let high : get_or p.d.items i 0 ≤ get_or o.d.items i 0 = rw back at over in
      omega (arith, low, high))

  same_pairs : o.pairs.items ≡ p.pairs.items
  same_pairs = same_numbers o.pairs.items p.pairs.items (a.pairs_all ∙ sym b.pairs_all) (λ i l.
      one_transversal g (c_of o) (d_of o) (pairs_of o) (pairs_of p) a.tight a.covers a.sequence
      (rw (same_c, same_d) b.tight) b.covers (rw (same_c, same_d) b.sequence) i (omega (arith, a.pairs_all, l)))

-- ---- orders

same_orders : (m : FlatModel) (pairs orders others : List ℕ) → AreOrdersAt (incidence_of m) pairs orders → AreOrdersAt (incidence_of m) pairs others → orders ≡ others
same_orders m pairs orders others a b = same_numbers orders others (a.all ∙ sym b.all) (λ i l.
    let il : i < equations (incidence_of m) = omega (arith, a.all, l) in
    let x = a.order i il in
    let y = b.order i il in
    let same : y.0 ≡ x.0 = one_entry m i x.0 y.0 x.1 y.1 (x.2 ∙ sym y.2) in
    sym x.3 ∙ rw same at y.3)

-- ---- what stands beside them

module _ (g : Signature) (o p : Offsets) (c_is : o.c.items ≡ p.c.items) (d_is : o.d.items ≡ p.d.items) (t_is : o.pairs.items ≡ p.pairs.items) (r s : Report)
    (a : HasSquareParts g o r) (b : HasSquareParts g p s) where
  same_reason_lists : r.reasons.items ≡ s.reasons.items
  same_reason_lists =
      let other : AreReasonsOf g (c_of o) (d_of o) (pairs_of o) s.reasons.items = rw (c_is, d_is, t_is) b.reasons in
      a.reasons.listed ∙ (same_reasons g (c_of o) (d_of o) (pairs_of o) a.reasons.by other.by a.reasons.reason other.reason (equations g) (omega arith) ∙ sym other.listed)

  same_blocks : numbers_in r.blocks.0.items ≡ numbers_in s.blocks.0.items
  same_blocks =
      let other : AreBlocksInOrder g (c_of o) (d_of o) (pairs_of o) (numbers_in s.blocks.0.items) = rw (c_is, d_is, t_is) b.blocks in
      order_unique (Needs g (c_of o) (d_of o) (pairs_of o)) (equations g) (numbers_in r.blocks.0.items) (numbers_in s.blocks.0.items) a.blocks other

  same_dummies : r.dummies.chosen.items ≡ s.dummies.chosen.items
  same_dummies =
      let other : s.dummies.chosen.items ≡ dummies_of (c_of o) (d_of o) (pairs_of o) (equations g) = rw (c_is, d_is, t_is) b.dummies in
      a.dummies ∙ sym other

  same_states : r.dummies.states.items ≡ s.dummies.states.items
  same_states =
      let other : s.dummies.states.items ≡ states_of (c_of o) (d_of o) (pairs_of o) (equations g) g.unknowns = rw (c_is, d_is, t_is) b.states in
      a.states ∙ sym other

  same_index : r.index ≡ s.index
  same_index =
      let other : s.index ≡ index_of g (c_of o) (d_of o) = rw (c_is, d_is) b.index in
      a.index ∙ sym other

  same_freedom : r.freedom ≡ s.freedom
  same_freedom =
      let other : s.freedom + sum_below (c_of o) (equations g) ≡ sum_unknowns g (d_of o) = rw (c_is, d_is) b.freedom in
      let one = a.freedom in
      omega (arith, one, other)

-- ---- the whole

some_lists : (o p : Offsets) (x y : Option Offsets) → o.c.items ≡ p.c.items → o.d.items ≡ p.d.items → o.pairs.items ≡ p.pairs.items → x ≡ Some o → y ≡ Some p → offset_lists x ≡ offset_lists y
some_lists o p x y c d t x_is y_is = rw (x_is, y_is, c, d, t) refl

some_deficits : (a b : Deficit) (x y : Option Deficit) → a.equations.items ≡ b.equations.items → a.unknowns.items ≡ b.unknowns.items → x ≡ Some a → y ≡ Some b → deficit_lists x ≡ deficit_lists y
some_deficits a b x y e u x_is y_is = rw (x_is, y_is, e, u) refl

module _ (m : FlatModel) (r s : Report) (name : r.name ≡ s.name) (unknowns : r.unknowns ≡ s.unknowns) (equations_are : r.equations ≡ s.equations) where
  -- neither has offsets
  both_singular : (deficit other : Deficit) (k l : ℕ) → r.deficit ≡ Some deficit → s.deficit ≡ Some other
      → IsDeficit (incidence_of m) deficit.equations.items deficit.unknowns.items k → IsDeficit (incidence_of m) other.equations.items other.unknowns.items l
      → r.offsets ≡ None → s.offsets ≡ None → r.orders.items ≡ [] → s.orders.items ≡ [] → r.loose.items ≡ [] → s.loose.items ≡ []
      → HasNoSquareParts r → HasNoSquareParts s → SaySame r s
  both_singular deficit other k l r_is s_is a b no_r no_s orders_r orders_s loose_r loose_s none none' = record {
    name = name;
    unknowns = unknowns;
    equations = equations_are;
    orders = orders_r ∙ sym orders_s;
    deficit = some_deficits deficit other r.deficit s.deficit
        (same_listed (IsDeficient (incidence_of m)) (equations (incidence_of m)) deficit.equations.items other.equations.items a.equations b.equations)
        (same_listed (IsMentionedInDeficit (incidence_of m)) (incidence_of m).unknowns deficit.unknowns.items other.unknowns.items a.unknowns b.unknowns) r_is s_is;
    offsets = ap offset_lists (no_r ∙ sym no_s);
    loose = loose_r ∙ sym loose_s;
    reasons = none.reasons ∙ sym none'.reasons;
    blocks = ap numbers_in (none.blocks ∙ sym none'.blocks);
    dummies = none.dummies ∙ sym none'.dummies;
    states = none.states ∙ sym none'.states;
    index = none.index ∙ sym none'.index;
    freedom = none.freedom ∙ sym none'.freedom;
  }

  module _ (o p : Offsets) (a : HasOffsets (incidence_of m) o r) (b : HasOffsets (incidence_of m) p s) where
    c_same : o.c.items ≡ p.c.items
    c_same = same_c (incidence_of m) o p a.least b.least

    d_same : o.d.items ≡ p.d.items
    d_same = same_d (incidence_of m) o p a.least b.least

    t_same : o.pairs.items ≡ p.pairs.items
    t_same = same_pairs (incidence_of m) o p a.least b.least

    orders_same : r.orders.items ≡ s.orders.items
    orders_same = same_orders m o.pairs.items r.orders.items s.orders.items a.orders (rw t_same b.orders)

    both_loose : ListsWhere (IsUndetermined (incidence_of m)) (incidence_of m).unknowns r.loose.items → ListsWhere (IsUndetermined (incidence_of m)) (incidence_of m).unknowns s.loose.items
        → HasNoSquareParts r → HasNoSquareParts s → SaySame r s
    both_loose loose loose' none none' = record {
      name = name;
      unknowns = unknowns;
      equations = equations_are;
      orders = orders_same;
      deficit = ap deficit_lists (a.no_deficit ∙ sym b.no_deficit);
      offsets = some_lists o p r.offsets s.offsets c_same d_same t_same a.given b.given;
      loose = same_listed (IsUndetermined (incidence_of m)) (incidence_of m).unknowns r.loose.items s.loose.items loose loose';
      reasons = none.reasons ∙ sym none'.reasons;
      blocks = ap numbers_in (none.blocks ∙ sym none'.blocks);
      dummies = none.dummies ∙ sym none'.dummies;
      states = none.states ∙ sym none'.states;
      index = none.index ∙ sym none'.index;
      freedom = none.freedom ∙ sym none'.freedom;
    }

    both_square : r.loose.items ≡ [] → s.loose.items ≡ [] → HasSquareParts (incidence_of m) o r → HasSquareParts (incidence_of m) p s → SaySame r s
    both_square loose loose' parts parts' = record {
      name = name;
      unknowns = unknowns;
      equations = equations_are;
      orders = orders_same;
      deficit = ap deficit_lists (a.no_deficit ∙ sym b.no_deficit);
      offsets = some_lists o p r.offsets s.offsets c_same d_same t_same a.given b.given;
      loose = loose ∙ sym loose';
      reasons = same_reason_lists (incidence_of m) o p c_same d_same t_same r s parts parts';
      blocks = same_blocks (incidence_of m) o p c_same d_same t_same r s parts parts';
      dummies = same_dummies (incidence_of m) o p c_same d_same t_same r s parts parts';
      states = same_states (incidence_of m) o p c_same d_same t_same r s parts parts';
      index = same_index (incidence_of m) o p c_same d_same t_same r s parts parts';
      freedom = same_freedom (incidence_of m) o p c_same d_same t_same r s parts parts';
    }

  never_both : (deficit : Deficit) (k : ℕ) (o : Offsets) → k ≢ 0 → IsDeficit (incidence_of m) deficit.equations.items deficit.unknowns.items k → AreLeastOffsets (incidence_of m) o → ⊥
  never_both deficit k o some is least =
      no_deficit_holds (incidence_of m) (c_of o) (d_of o) (pairs_of o) least.tight least.covers deficit.equations.items deficit.unknowns.items k some is

  found_same : IsRightFor (incidence_of m) r → IsRightFor (incidence_of m) s → SaySame r s
  found_same (singular deficit k some r_is a no_r orders_r loose_r none) (singular other l some' s_is b no_s orders_s loose_s none') =
      both_singular deficit other k l r_is s_is a b no_r no_s orders_r orders_s loose_r loose_s none none'
  found_same (singular deficit k some r_is a no_r orders_r loose_r none) (underdetermined p less has loose' none') = absurd (never_both deficit k p some a has.least)
  found_same (singular deficit k some r_is a no_r orders_r loose_r none) (square p same has loose' parts') = absurd (never_both deficit k p some a has.least)
  found_same (underdetermined o less has loose none) (singular other l some' s_is b no_s orders_s loose_s none') = absurd (never_both other l o some' b has.least)
  found_same (underdetermined o less has loose none) (underdetermined p less' has' loose' none') = both_loose o p has has' loose loose' none none'
  found_same (underdetermined o less has loose none) (square p same has' loose' parts') = absurd (omega (arith, less, same))
  found_same (square o same has loose parts) (singular other l some' s_is b no_s orders_s loose_s none') = absurd (never_both other l o some' b has.least)
  found_same (square o same has loose parts) (underdetermined p less' has' loose' none') = absurd (omega (arith, less', same))
  found_same (square o same has loose parts) (square p same' has' loose' parts') = both_square o p has has' loose loose' parts parts'

pub one_report : (m : FlatModel) (r s : Report) → IsRightReport m r → IsRightReport m s → SaySame r s
one_report m r s a b = found_same m r s (a.name ∙ sym b.name) (a.unknowns ∙ sym b.unknowns) (a.equations ∙ sym b.equations) a.found b.found
