-- The row that is found is the row of the definition.
use Rattle.std.proofs.Common.{◌≡◌, ℕ, zero, suc, ◌+◌, ◌-◌, ◌<◌, ◌≤◌, false, List, [], ◌∷◌, ◌++◌, Option, Some, None, length, get_or, refl, ap, ◌∙◌, sym, subst, arith, IsPermutation}
use Rattle.std.specs.Prelude.{max, IsTrue}
use Rattle.mo_flat.specs.declared.expr.FlatExpr.{FlatExpr}
use Rattle.mo_flat.specs.declared.model.FlatEquation.{FlatEquation}
use Rattle.mo_flat.specs.declared.model.FlatVar.{FlatVar}
use Rattle.mo_flat.specs.Roles.{unknown_numbers}
use Rattle.mo_flat.specs.Sound.{IsSoundEquation, orders_fit}
use Rattle.mo_symdiff.specs.Sigma.{higher, sigma}
use Rattle.mo_symdiff.proofs.SigmaAt.{greatest_append}
use Rattle.mo_symdiff.proofs.SigmaGather.{gathered, greatest_by}
use Rattle.mo_symdiff.proofs.SigmaLaws.{gathered_fits, sigma_raised_by}
use Rattle.mo_symdiff.proofs.SigmaOrders.{add, order_var, raised_gathered, rank}
use Rattle.mo_incidence.specs.steps.Gathered.{found, last_of_each, unknown_places}
use Rattle.mo_incidence.specs.Model.{entries_from, entry_of, order_in, row_of}
use Rattle.mo_incidence.proofs.Found.{IsPlace, both_in_range, found_in_range, found_tells}
use Rattle.mo_incidence.proofs.Sorting.{Below, Matches, StartsAt, ascends, entry_rank, greatest_permutation, row_from_sorted}
use Rattle.mo_incidence.proofs.Unknowns.{numbered_all, unknowns_are}

-- the entries of both sides
abbrev pub entries_of : List FlatVar → FlatEquation → List (ℕ × ℕ)
entries_of vars q = found (unknown_places vars) q.left 0 ++ found (unknown_places vars) q.right 0

is_place : (vars : List FlatVar) (i : ℕ) → i < length (unknown_numbers vars) → IsPlace (unknown_places vars) (i + 1) (get_or (unknown_numbers vars) i 0)
is_place vars i h =
    let r = numbered_all vars in
    record {
      positive = omega arith;
      place = λ w e. (let a = r.place i w h (omega arith) in omega arith);
      number = λ w e. (let a = r.number i w h (omega arith) in omega arith);
    }

by_sign : (n x : ℕ) → (n ≡ 0 → x ≡ 0) → (0 < n → x ≡ n + 0) → x ≡ n
by_sign zero x h k = h refl
by_sign (suc n) x h k = let e = k (omega arith) in omega arith

rank_higher : (a b : Option ℕ) → rank (higher a b) ≡ max (rank a) (rank b)
rank_higher None b = omega arith
rank_higher (Some i) None = omega arith
rank_higher (Some i) (Some j) = omega arith

-- what an unknown has as its order on one side, and one more
side_rank : (vars : List FlatVar) (e : FlatExpr) (i : ℕ) → i < length (unknown_numbers vars) → IsTrue (orders_fit 65535 e) →
    (rank (sigma vars e (get_or (unknown_numbers vars) i 0)) ≡ greatest_by (entry_rank (i + 1)) (found (unknown_places vars) e 0)) × (rank (sigma vars e (get_or (unknown_numbers vars) i 0)) ≤ 65535)
side_rank vars e i h fit =
    let v : ℕ = get_or (unknown_numbers vars) i 0 in
    let n : ℕ = gathered (order_var v) add e in
    let fits : n ≤ 65535 = gathered_fits v 65535 e fit in
    let t = found_tells (unknown_places vars) (i + 1) v (is_place vars i h) e 0 in
    let raised = ap rank (sigma_raised_by vars e v (unknowns_are vars i h) (omega arith)) ∙ raised_gathered v e in
    let ranks : greatest_by (entry_rank (i + 1)) (found (unknown_places vars) e 0) ≡ n = by_sign n (greatest_by (entry_rank (i + 1)) (found (unknown_places vars) e 0)) t.none (λ p. t.some p (omega arith)) in
    ((omega arith), (omega arith))

-- the same of both sides
equation_rank : (vars : List FlatVar) (q : FlatEquation) → IsSoundEquation vars q → (i : ℕ) → i < length (unknown_numbers vars) →
    (rank (order_in vars q (get_or (unknown_numbers vars) i 0)) ≡ greatest_by (entry_rank (i + 1)) (entries_of vars q)) × (rank (order_in vars q (get_or (unknown_numbers vars) i 0)) ≤ 65535)
equation_rank vars q s i h =
    let v : ℕ = get_or (unknown_numbers vars) i 0 in
    let left = side_rank vars q.left i h s.left.sound.orders in let right = side_rank vars q.right i h s.right.sound.orders in
    let l = left.0 in let l' = left.1 in let r = right.0 in let r' = right.1 in
    let whole = rank_higher (sigma vars q.left v) (sigma vars q.right v) in
    let entries = greatest_append (entry_rank (i + 1)) (found (unknown_places vars) q.left 0) (found (unknown_places vars) q.right 0) in
    ((omega arith), (omega arith))

matches_from : (order : ℕ → Option ℕ) (j : ℕ) (vs : List ℕ) (es : List (ℕ × ℕ)) → ((i : ℕ) → i < length vs → rank (order (get_or vs i 0)) ≡ greatest_by (entry_rank (j + i)) es) → Matches order j vs es
matches_from order j [] es h = tt
matches_from order j (v ∷ vs) es h =
    let here : j + 0 ≡ j = omega arith in (
      subst (λ n. rank (order v) ≡ greatest_by (entry_rank n) es) here (h 0 (omega arith)),
      matches_from order (j + 1) vs es (λ i l. let next : j + suc i ≡ (j + 1) + i = omega arith in subst (λ n. rank (order (get_or vs i 0)) ≡ greatest_by (entry_rank n) es) next (h (suc i) (omega arith))),
    )

starts : (es : List (ℕ × ℕ)) → greatest_by (λ x. 1 - x.0) es ≡ 0 → StartsAt 1 es
starts [] h = tt
starts (x ∷ es) h = omega arith

pub row_law : (vars : List FlatVar) (q : FlatEquation) (es : List (ℕ × ℕ)) → IsSoundEquation vars q → IsPermutation (entries_of vars q) es →
    ((k : ℕ) (d : ℕ × ℕ) → 0 ≤ k → k + 1 < length es → Below (get_or es (k + 1) d) (get_or es k d) ≡ false) → last_of_each es ≡ row_of vars q
row_law vars q es s p sorted =
    let m : ℕ = length (unknown_numbers vars) in
    let within : (w : ℕ) → get_or (unknown_places vars) w 0 ≤ m = λ w. (let a = (numbered_all vars).within w in omega arith) in
    let range = both_in_range m (found (unknown_places vars) q.left 0) (found (unknown_places vars) q.right 0)
    (found_in_range (unknown_places vars) m within q.left 0) (found_in_range (unknown_places vars) m within q.right 0) in
    let high = range.high in let low = range.low in
    let high' = greatest_permutation (λ x. x.0 + 1) (entries_of vars q) es p in
    let low' = greatest_permutation (λ x. 1 - x.0) (entries_of vars q) es p in
    row_from_sorted (order_in vars q) 1 (unknown_numbers vars) es (ascends es sorted) (starts es (low' ∙ low)) (omega arith)
    (matches_from (order_in vars q) 1 (unknown_numbers vars) es (λ i h.
    let e = (equation_rank vars q s i h).0 in
    let same = greatest_permutation (entry_rank (i + 1)) (entries_of vars q) es p in
    let number : i + 1 ≡ 1 + i = omega arith in
    subst (λ n. rank (order_in vars q (get_or (unknown_numbers vars) i 0)) ≡ greatest_by (entry_rank n) es) number (e ∙ sym same)))

-- a row that keeps the rules of an incidence, its unknowns numbered from j on, n of them
pub record IsRowFrom (j n : ℕ) (es : List (ℕ × ℕ)) : Type 0 where
  pub known : (k : ℕ) → k < length es → (j ≤ (get_or es k (0, 0)).0) × ((get_or es k (0, 0)).0 < j + n)
  pub ascending : (k : ℕ) → k + 1 < length es → (get_or es k (0, 0)).0 < (get_or es (k + 1) (0, 0)).0
  pub low : (k : ℕ) → k < length es → (get_or es k (0, 0)).1 < 65536

no_row : (j n : ℕ) → IsRowFrom j n []
no_row j n = record { known = λ k h. absurd (omega arith); ascending = λ k h. absurd (omega arith); low = λ k h. absurd (omega arith) }

first_known : (j n order : ℕ) (es : List (ℕ × ℕ)) → IsRowFrom (j + 1) n es → (k : ℕ) → k < length ((j, order) ∷ es) → (j ≤ (get_or ((j, order) ∷ es) k (0, 0)).0) × ((get_or ((j, order) ∷ es) k (0, 0)).0 < j + (n + 1))
first_known j n order es r zero h = ((omega arith), (omega arith))
first_known j n order es r (suc k) h = let e = r.known k (omega arith) in let a = e.0 in let b = e.1 in ((omega arith), (omega arith))

first_ascending : (j n order : ℕ) (es : List (ℕ × ℕ)) → IsRowFrom (j + 1) n es → (k m : ℕ) → m ≡ k + 1 → m < length ((j, order) ∷ es) → (get_or ((j, order) ∷ es) k (0, 0)).0 < (get_or ((j, order) ∷ es) m (0, 0)).0
first_ascending j n order es r k zero e h = absurd (omega arith)
first_ascending j n order es r zero (suc m) e h = let d = r.known m (omega arith) in let a = d.0 in omega arith
first_ascending j n order es r (suc k) (suc m) e h =
    let same : m ≡ k + 1 = omega arith in
    subst (λ i. (get_or es k (0, 0)).0 < (get_or es i (0, 0)).0) (sym same) (r.ascending k (omega arith))

first_low : (j n order : ℕ) (es : List (ℕ × ℕ)) → IsRowFrom (j + 1) n es → order < 65536 → (k : ℕ) → k < length ((j, order) ∷ es) → (get_or ((j, order) ∷ es) k (0, 0)).1 < 65536
first_low j n order es r l zero h = l
first_low j n order es r l (suc k) h = r.low k (omega arith)

with_entry : (j n : ℕ) (o : Option ℕ) (es : List (ℕ × ℕ)) → rank o ≤ 65535 → IsRowFrom (j + 1) n es → IsRowFrom j (n + 1) (entry_of j o ++ es)
with_entry j n None es l r = record {
  known = λ k h. (let e = r.known k h in let a = e.0 in let b = e.1 in ((omega arith), (omega arith)));
  ascending = r.ascending;
  low = r.low;
}
with_entry j n (Some order) es l r = record {
  known = first_known j n order es r;
  ascending = λ k h. first_ascending j n order es r k (k + 1) refl h;
  low = first_low j n order es r (omega arith);
}

row_from : (order : ℕ → Option ℕ) (j : ℕ) (vs : List ℕ) → ((i : ℕ) → i < length vs → rank (order (get_or vs i 0)) ≤ 65535) → IsRowFrom j (length vs) (entries_from j order vs)
row_from order j [] h = no_row j 0
row_from order j (v ∷ vs) h =
    let longer : length vs + 1 ≡ length (v ∷ vs) = omega arith in
    subst (λ n. IsRowFrom j n (entry_of j (order v) ++ entries_from (j + 1) order vs)) longer
    (with_entry j (length vs) (order v) (entries_from (j + 1) order vs) (h 0 (omega arith)) (row_from order (j + 1) vs (λ i l. h (suc i) (omega arith))))

pub row_is_sound : (vars : List FlatVar) (q : FlatEquation) → IsSoundEquation vars q → IsRowFrom 1 (length (unknown_numbers vars)) (row_of vars q)
row_is_sound vars q s = row_from (order_in vars q) 1 (unknown_numbers vars) (λ i h. (equation_rank vars q s i h).1)
