-- Faults of printed orders, offsets and pairs, equation by equation.
use Rattle.std.proofs.Common.{◌≡◌, ◌≢◌, ℕ, suc, ◌+◌, ◌-◌, ◌<◌, ◌≤◌, inl, inr, List, length, get_or, set, Option, Some, refl, sym, ap, ◌∙◌, arith}
use Rattle.std.proofs.lemmas.Bool.{cases_lt, cases_eq}
use Rattle.std.proofs.lemmas.List.{get_or-set_same, get_or-set_other, length-set}
use Rattle.mo_incidence.specs.Signature.{Signature, equations, row_len, unknown_at, order_at}
use Rattle.mo_incidence.specs.Offsets.{by_number}
use Rattle.mo_verify.specs.declared.verdict.Verdict.TheVariants.{Order, Low, Loose, Twice}
use Rattle.mo_verify.specs.Printed.{Printed}
use Rattle.mo_verify.specs.Faults.{IsSigma, HaveOrders, FitTo, IsLooseAt, MeetTo, AreApartTo}
use Rattle.mo_verify.specs.Finding.{IsOrderFault, IsLowFault, IsLooseFault, IsTwiceFault}

module _ (g : Signature) (p : Printed) where
  -- ---- orders
  pub orders_none : HaveOrders g p 0
  orders_none i below = absurd (omega arith)

  pub orders_more : (n place : ℕ) (found : Option ℕ) → place ≡ n → HaveOrders g p n → IsSigma g place (get_or p.pairs n 0) found → found ≡ Some (get_or p.orders n 0) → HaveOrders g p (n + 1)
  orders_more n place found at have sigma same i below = elim (cases_lt i n) [
    | inl before ↦ have i before
    | inr after ↦ (let is : i ≡ n = omega arith in rw is (rw (at, same) at sigma))
  ]

  pub order_fault : (n place : ℕ) (found : Option ℕ) → place ≡ n → n < equations g → HaveOrders g p n → IsSigma g place (get_or p.pairs n 0) found → (found ≡ Some (get_or p.orders n 0) → ⊥)
      → IsOrderFault g p (Order (n + 1) (get_or p.pairs n 0) (get_or p.orders n 0) found)
  order_fault n place found at below have sigma apart = record { place = n; found = found; within = below; before = have; sigma = rw at at sigma; apart = apart; is = refl }

  -- ---- entries
  pub fit_none : FitTo g p 0 0
  fit_none = record { rows = λ r e below within low. absurd (omega arith); here = λ e below low. absurd (omega arith) }

  pub fit_more : (n place : ℕ) → place ≡ n → FitTo g p n 0 → ((e : ℕ) → e < row_len g place → by_number p.d (unknown_at g place e) < order_at g place e + get_or p.c n 0 → ⊥) → FitTo g p (n + 1) 0
  fit_more n place at fit none = record {
    rows = λ r e below within low. elim (cases_lt r n) [
      | inl before ↦ fit.rows r e before within low
      | inr after ↦ (let is : r ≡ n = omega arith in none e (rw at (rw is at within)) (rw at (rw is at low)))
    ];
    here = λ e below low. absurd (omega arith);
  }

  pub low_fault : (n place k : ℕ) → place ≡ n → n < equations g → FitTo g p n 0 → k < row_len g place → by_number p.d (unknown_at g place k) < order_at g place k + get_or p.c n 0
      → ((e : ℕ) → e < k → by_number p.d (unknown_at g place e) < order_at g place e + get_or p.c n 0 → ⊥) → (unknown order d : ℕ)
      → unknown ≡ unknown_at g place k → order ≡ order_at g place k → d ≡ by_number p.d unknown → IsLowFault g p (Low (n + 1) unknown order (get_or p.c n 0) d)
  low_fault n place k at below fit within low first unknown order d u o h = record {
    place = n;
    entry = k;
    within = (below, rw at at within);
    before = record { rows = fit.rows; here = λ e before l. first e before (rw at l) };
    low = rw at at low;
    is = rw (h, u, o, at) refl;
  }

  -- ---- pairs
  pub meet_none : MeetTo p 0
  meet_none i below loose = absurd (omega arith)

  pub meet_more : (n : ℕ) → MeetTo p n → (IsLooseAt p n → ⊥) → MeetTo p (n + 1)
  meet_more n meet none i below loose = elim (cases_lt i n) [
    | inl before ↦ meet i before loose
    | inr after ↦ (let is : i ≡ n = omega arith in none (rw is at loose))
  ]

  pub loose_fault : (n : ℕ) → n < equations g → MeetTo p n → IsLooseAt p n → IsLooseFault g p (Loose (n + 1) (get_or p.pairs n 0) (get_or p.orders n 0) (get_or p.c n 0) (by_number p.d (get_or p.pairs n 0)))
  loose_fault n below meet loose = record { place = n; within = below; before = meet; loose = loose; is = refl }

  -- ---- unknowns that are taken
  -- the numbers of the first n equations stand at their unknowns, and no others do
  pub record AreTaken (owner : List ℕ) (n : ℕ) : Type 0 where
    pub size : length owner ≡ suc g.unknowns
    pub taken : (i : ℕ) → i < n → get_or owner (get_or p.pairs i 0) 0 ≢ 0
    pub by : (j : ℕ) → get_or owner j 0 ≢ 0 → (i : ℕ) × (i < n) × (get_or owner j 0 ≡ i + 1) × (get_or p.pairs i 0 ≡ j)
    pub apart : AreApartTo p n

  pub taken_none : (owner : List ℕ) → length owner ≡ suc g.unknowns → ((j : ℕ) → get_or owner j 0 ≡ 0) → AreTaken owner 0
  taken_none owner size clear = record {
    size = size;
    taken = λ i below. absurd (omega arith);
    by = λ j some. absurd (some (clear j));
    apart = λ i k before below. absurd (omega arith);
  }

  module _ (owner : List ℕ) (n : ℕ) (t : AreTaken owner n) (known : get_or p.pairs n 0 ≤ g.unknowns) where
    others : (i : ℕ) → i < n → get_or owner (get_or p.pairs n 0) 0 ≡ 0 → get_or p.pairs i 0 ≡ get_or p.pairs n 0 → ⊥
    others i below free same = t.taken i below (rw same free)

    pub taken_more : get_or owner (get_or p.pairs n 0) 0 ≡ 0 → AreTaken (set owner (get_or p.pairs n 0) (n + 1)) (n + 1)
    taken_more free = record {
      size = length-set owner (get_or p.pairs n 0) (n + 1) ∙ t.size;
      taken = λ i below. elim (cases_lt i n) [
        | inl before ↦ (
            let apart : get_or p.pairs i 0 ≢ get_or p.pairs n 0 = others i before free in
            rw (get_or-set_other owner (get_or p.pairs n 0) (get_or p.pairs i 0) (n + 1) 0 apart) (t.taken i before))
        | inr after ↦ (
            let is : i ≡ n = omega arith in
            let here : get_or (set owner (get_or p.pairs n 0) (n + 1)) (get_or p.pairs n 0) 0 ≡ n + 1 = get_or-set_same owner (get_or p.pairs n 0) (n + 1) 0 (omega (arith, t.size)) in
            rw is (λ zero. omega (arith, here, zero)))
      ];
      by = λ j some. elim (cases_eq j (get_or p.pairs n 0)) [
        | inl same ↦ (
            let here : get_or (set owner (get_or p.pairs n 0) (n + 1)) (get_or p.pairs n 0) 0 ≡ n + 1 = get_or-set_same owner (get_or p.pairs n 0) (n + 1) 0 (omega (arith, t.size)) in
            (n, omega arith, rw same here, sym same))
        | inr apart ↦ (
            let old : get_or (set owner (get_or p.pairs n 0) (n + 1)) j 0 ≡ get_or owner j 0 = get_or-set_other owner (get_or p.pairs n 0) j (n + 1) 0 apart in
            let before = t.by j (λ zero. some (old ∙ zero)) in
            (before.0, omega (arith, before.1), old ∙ before.2, before.3))
      ];
      apart = λ i k before below same. elim (cases_lt k n) [
        | inl under ↦ t.apart i k before under same
        | inr over ↦ (let is : k ≡ n = omega arith in others i (omega arith) free (rw is at same))
      ];
    }

    pub twice_fault : n < equations g → (first : ℕ) → first ≡ get_or owner (get_or p.pairs n 0) 0 → first ≢ 0 → IsTwiceFault g p (Twice first (n + 1) (get_or p.pairs n 0))
    twice_fault below first e some =
        let before = t.by (get_or p.pairs n 0) (λ zero. some (e ∙ zero)) in
        record {
          first = before.0;
          second = n;
          within = (before.1, below);
          before = t.apart;
          same = before.3;
          is = ap (λ (f : ℕ). Twice f (n + 1) (get_or p.pairs n 0)) (e ∙ before.2);
        }
