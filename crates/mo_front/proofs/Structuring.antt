-- What an assignment of all equations and the least offsets give.
use Rattle.std.proofs.Common.{◌≡◌, ℕ, ◌-◌, ◌<◌, ◌≤◌, List, Vec, Option, Some, None, length, get_or, refl, ap, sym, ◌∙◌, subst, arith}
use Rattle.std.specs.Global.{Global}
use Rattle.std.proofs.lemmas.Grind.{get_or_default_zero}
use Rattle.std.proofs.lemmas.List.{length-map}
use Rattle.mo_flat.specs.declared.model.FlatModel.{FlatModel}
use Rattle.mo_incidence.specs.declared.findings.Blocks.{Blocks}
use Rattle.mo_incidence.specs.declared.findings.Deficit.{Deficit}
use Rattle.mo_incidence.specs.declared.findings.Dummies.{Dummies}
use Rattle.mo_incidence.specs.declared.findings.Offsets.{Offsets}
use Rattle.mo_incidence.specs.declared.findings.Reason.{Reason}
use Rattle.mo_incidence.specs.Signature.{Signature, equations, IsSound}
use Rattle.mo_incidence.specs.Assignment.{Mentions, IsAssignment, CoversAll, ListsWhere, IsDeficit, IsUndetermined}
use Rattle.mo_incidence.specs.Offsets.{IsTight, c_of, d_of, pairs_of}
use Rattle.mo_incidence.specs.Reasons.{AreReasonsOf}
use Rattle.mo_incidence.specs.Model.{row_of, incidence_of}
use Rattle.mo_incidence.proofs.Counting.{distinct_room}
use Rattle.mo_pantelides.proofs.Tight.{tight_entry_of}
use Rattle.mo_blocks.proofs.Dummying.{tight_low}
use Rattle.mo_incidence.proofs.Owning.{tight_known}
use Rattle.mo_report.specs.declared.report.Report.{Report}
use Rattle.mo_report.specs.Right.{AreLeastOffsets, AreOrdersAt, HasSquareParts, HasNoSquareParts, IsRightFor, singular, underdetermined, square}
use Rattle.mo_report.specs.Right.{IsRightReport}
use Rattle.mo_front.specs.declared.structure.Found.{Found}
use Rattle.mo_front.specs.steps.Structure.{order_by_offsets, IsEmptyReport, IsFoundOf, IsLeftOut, IsReportOn, as_many, fewer_equations, missing}
use Rattle.mo_front.specs.Least.{IsLeastFor, least_offsets, left_out}

mentions_known : (g : Signature) (i j : ℕ) → IsSound g → i < equations g → Mentions g i j → (0 < j) × (j ≤ g.unknowns)
unfolding Mentions
mentions_known g i j sound l mentions = rw mentions.2 at (sound.known i mentions.0 l mentions.1)

-- where each equation has an unknown of its own, there are no more equations than unknowns
pub few_equations : (g : Signature) (q : ℕ → ℕ) → IsSound g → IsAssignment g q → CoversAll g q → equations g ≤ g.unknowns
few_equations g q sound assigns all =
    let known = λ (i : ℕ) (l : i < equations g). mentions_known g i (q i) sound l (assigns.allowed i l (all i l)) in
    distinct_room (λ i. q i - 1) (equations g) g.unknowns
    (λ i l. let at = known i l in omega (arith, at.0, at.1))
    (λ i k il kl same. let one = known i il in let other = known k kl in assigns.apart i k il kl (all i il) (omega (arith, one.0, other.0)))

-- what is read of the offsets: the unknown j of the equation at place i, and their offsets x and y
module _ (g : Signature) (offsets : Offsets) (i j : ℕ) (sound : IsSound g) (least : AreLeastOffsets g offsets) (l : i < equations g)
    (j-is : j ≡ get_or offsets.pairs.items i j) where
  pair_is : j ≡ pairs_of offsets i
  pair_is =
      let inside : i < length offsets.pairs.items = omega (arith, least.pairs_all) in
      j-is ∙ get_or_default_zero offsets.pairs.items i j inside

  pair_tight : IsTight g (c_of offsets) (d_of offsets) i (pairs_of offsets i)
  pair_tight = least.tight.allowed i l (least.covers i l)

  pub pair_known : (0 < j) × (j - 1 < length offsets.d.items)
  pair_known =
      let known : (0 < pairs_of offsets i) × (pairs_of offsets i ≤ g.unknowns) =
      tight_known g (c_of offsets) (d_of offsets) i (pairs_of offsets i) sound l pair_tight in
      let is : j ≡ pairs_of offsets i = pair_is in
      let all : length offsets.d.items ≡ g.unknowns = least.unknowns_all in
      (omega (arith, known.0), omega (arith, known.0, known.1))

  module _ (x y : ℕ) (x-is : x ≡ get_or offsets.c.items i x) (y-is : y ≡ get_or offsets.d.items (j - 1) y) where
    offset_is : x ≡ c_of offsets i
    offset_is =
        let inside : i < length offsets.c.items = omega (arith, least.equations_all) in
        x-is ∙ get_or_default_zero offsets.c.items i x inside

    highest_is : y ≡ d_of offsets (pairs_of offsets i)
    highest_is = y-is ∙ get_or_default_zero offsets.d.items (j - 1) y pair_known.1 ∙ ap (d_of offsets) pair_is

    pub order_low : x ≤ y
    order_low =
        let low : c_of offsets i ≤ d_of offsets (pairs_of offsets i) =
        tight_low g (c_of offsets) (d_of offsets) i (pairs_of offsets i) pair_tight in
        omega (arith, offset_is, highest_is)

    pub order_is : y - x ≡ order_by_offsets offsets i
    order_is = omega (arith, offset_is, highest_is)

-- the differences of the offsets are the orders at the pairs
pub orders_at : (g : Signature) (offsets : Offsets) (orders : List ℕ) → AreLeastOffsets g offsets → length orders ≡ equations g
    → ((i : ℕ) → i < equations g → get_or orders i 0 ≡ order_by_offsets offsets i) → AreOrdersAt g offsets.pairs.items orders
orders_at g offsets orders least all each = record {
  all = all;
  order = λ i l.
      let entry = tight_entry_of g (c_of offsets) (d_of offsets) i (pairs_of offsets i)
      (least.tight.allowed i l (least.covers i l)) in
      let here = each i l in
      (entry.0, entry.1, entry.2, omega (arith, entry.3));
}

-- where the parts of square systems are the same
none_there : (e r : Report) → HasNoSquareParts e → r.reasons ≡ e.reasons → r.blocks ≡ e.blocks → r.dummies ≡ e.dummies → r.index ≡ e.index
    → r.freedom ≡ e.freedom → HasNoSquareParts r
none_there e r none reasons blocks dummies index freedom = record {
  reasons = rw reasons none.reasons;
  blocks = rw blocks none.blocks;
  dummies = rw dummies none.dummies;
  states = rw dummies none.states;
  index = rw index none.index;
  freedom = rw freedom none.freedom;
}

-- ---- what is found before a report is made

pub found_left_out : (g : Signature) (f : Found) (deficit : Deficit) (k : ℕ) → f.deficit ≡ Some deficit → f.offsets ≡ None
    → IsDeficit g deficit.equations.items deficit.unknowns.items k → 0 < k → IsFoundOf g f
found_left_out g f deficit k some none is more = missing deficit k (omega arith) some is none

pub least_of_found : (g : Signature) (f : Found) → IsFoundOf g f → IsLeastFor g f.offsets
least_of_found g f (missing deficit k some deficit_is is none) = subst (IsLeastFor g) (sym none) (left_out deficit.equations.items deficit.unknowns.items k some is)
least_of_found g f (fewer_equations offsets few none is they loose) = subst (IsLeastFor g) (sym is) (least_offsets they)
least_of_found g f (as_many offsets all none is they reasons) = subst (IsLeastFor g) (sym is) (least_offsets they)

pub left_out_of : (g : Signature) (f : Found) → IsFoundOf g f → f.offsets ≡ None → IsLeftOut g f.deficit
left_out_of g f (missing deficit k some deficit_is is none) e = (deficit, k, some, deficit_is, is)
left_out_of g f (fewer_equations offsets few none is they loose) e = let never : None ≡ Some offsets = sym e ∙ is in absurd cc
left_out_of g f (as_many offsets all none is they reasons) e = let never : None ≡ Some offsets = sym e ∙ is in absurd cc

same_offsets : (a b : Offsets) → Some a ≡ Some b → a ≡ b
same_offsets a b e = cc

pub fewer_of : (g : Signature) (f : Found) (offsets : Offsets) → IsFoundOf g f → f.offsets ≡ Some offsets → equations g < g.unknowns
    → AreLeastOffsets g offsets × ListsWhere (IsUndetermined g) g.unknowns f.loose.items
fewer_of g f offsets (missing deficit k some deficit_is is none) e l = let never : None ≡ Some offsets = sym none ∙ e in absurd cc
fewer_of g f offsets (fewer_equations others few none is they loose) e l = (subst (AreLeastOffsets g) (same_offsets others offsets (sym is ∙ e)) they, loose)
fewer_of g f offsets (as_many others all none is they reasons) e l = absurd (omega (arith, all, l))

abbrev pub AreReasonsBy : Signature → Offsets → List Reason → Type 0
AreReasonsBy g offsets reasons = AreReasonsOf g (c_of offsets) (d_of offsets) (pairs_of offsets) reasons

pub equal_of : (g : Signature) (f : Found) (offsets : Offsets) → IsFoundOf g f → f.offsets ≡ Some offsets → g.unknowns ≤ equations g
    → (equations g ≡ g.unknowns) × AreLeastOffsets g offsets × AreReasonsBy g offsets f.reasons.items
equal_of g f offsets (missing deficit k some deficit_is is none) e l = let never : None ≡ Some offsets = sym none ∙ e in absurd cc
equal_of g f offsets (fewer_equations others few none is they loose) e l = absurd (omega (arith, few, l))
equal_of g f offsets (as_many others all none is they reasons) e l =
    let same : others ≡ offsets = same_offsets others offsets (sym is ∙ e) in
    (all, subst (AreLeastOffsets g) same they, subst (λ (o : Offsets). AreReasonsBy g o f.reasons.items) same reasons)

-- ---- reports

-- the report where some equation is left out
pub singular_report_holds : (m : FlatModel) (g : Signature) (e : Report) (deficit : Option Deficit) → IsEmptyReport m g e → IsLeftOut g deficit → IsReportOn m g (record e { deficit = deficit })
singular_report_holds m g e deficit empty (found, k, some, is, is_deficit) = record {
  name = empty.name;
  unknowns = empty.unknowns;
  equations = empty.equations;
  found = singular found k some is is_deficit empty.offsets empty.orders empty.loose
      (none_there _ _ empty.square refl refl refl refl refl);
}

-- the report where there are fewer equations than unknowns
pub underdetermined_report_holds : (m : FlatModel) (g : Signature) (e : Report) (offsets : Offsets) (orders loose : Vec ℕ Global) → IsEmptyReport m g e
    → equations g < g.unknowns → AreLeastOffsets g offsets → AreOrdersAt g offsets.pairs.items orders.items
    → ListsWhere (IsUndetermined g) g.unknowns loose.items → IsReportOn m g (record e { orders = orders; offsets = Some offsets; loose = loose })
underdetermined_report_holds m g e offsets orders loose empty fewer least at lists = record {
  name = empty.name;
  unknowns = empty.unknowns;
  equations = empty.equations;
  found = underdetermined offsets fewer (record { no_deficit = empty.deficit; given = refl; least = least; orders = at }) lists
      (none_there _ _ empty.square refl refl refl refl refl);
}

-- the report on a square system
pub square_report_holds : (m : FlatModel) (g : Signature) (e : Report) (offsets : Offsets) (orders : Vec ℕ Global) (reasons : Vec Reason Global)
    (blocks : Blocks) (dummies : Dummies) (index freedom : ℕ) → IsEmptyReport m g e → equations g ≡ g.unknowns → AreLeastOffsets g offsets
    → AreOrdersAt g offsets.pairs.items orders.items
    → HasSquareParts g offsets (record e {
      orders = orders;
      offsets = Some offsets;
      reasons = reasons;
      blocks = blocks;
      dummies = dummies;
      index = index;
      freedom = freedom;
    })
    → IsReportOn m g (record e {
      orders = orders;
      offsets = Some offsets;
      reasons = reasons;
      blocks = blocks;
      dummies = dummies;
      index = index;
      freedom = freedom;
    })
square_report_holds m g e offsets orders reasons blocks dummies index freedom empty is_square least at parts = record {
  name = empty.name;
  unknowns = empty.unknowns;
  equations = empty.equations;
  found = square offsets is_square (record { no_deficit = empty.deficit; given = refl; least = least; orders = at }) empty.loose parts;
}

-- the report on the incidence of a model is right for it
pub right_report : (m : FlatModel) (g : Signature) (r : Report) → g ≡ incidence_of m → IsReportOn m g r → IsRightReport m r
unfolding equations incidence_of
right_report m g r is on = record {
  name = on.name;
  unknowns = on.unknowns;
  equations = on.equations ∙ ap (λ (x : Signature). length x.rows) is ∙ length-map m.equations (row_of m.vars);
  found = subst (λ x. IsRightFor x r) is on.found;
}
