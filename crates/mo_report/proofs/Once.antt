-- What is listed, counted or reasoned of a signature is one thing.
use Rattle.std.proofs.Common.{◌≡◌, ◌≢◌, ℕ, zero, suc, ◌+◌, ◌<◌, ◌≤◌, inl, inr, List, [], ◌∷◌, ◌++◌, Option, Some, None, length, get_or, map, refl, arith}
use Rattle.std.proofs.lemmas.Bool.{cases_lt}
use Rattle.std.proofs.lemmas.Bool.Decides.{eqb_tells}
use Rattle.mo_graph.specs.Counting.{count_below}
use Rattle.mo_graph.proofs.Counting.{sign_cases, sign_some, count_full}
use Rattle.mo_graph.proofs.Members.{at_contains}
use Rattle.mo_graph.proofs.Unique.{same_ascending}
use Rattle.mo_flat.specs.declared.model.FlatEquation.{FlatEquation}
use Rattle.mo_flat.specs.declared.model.FlatModel.{FlatModel}
use Rattle.mo_flat.specs.declared.model.FlatVar.{FlatVar}
use Rattle.mo_incidence.specs.Signature.{Signature, equations, row_len, unknown_at}
use Rattle.mo_incidence.specs.Assignment.{Mentions, Assigns, CoversAll, ListsWhere, IsDeficit, IsInDeficit}
use Rattle.mo_incidence.specs.Offsets.{IsTight}
use Rattle.mo_incidence.specs.Reasons.{IsReason, listed_reasons}
use Rattle.mo_incidence.specs.Model.{entry_of, entries_from, row_of, incidence_of, order_in}
use Rattle.mo_flat.specs.Roles.{unknown_numbers}

-- lists of one length that have the same numbers everywhere are the same
pub same_numbers : (xs ys : List ℕ) → length xs ≡ length ys → ((i : ℕ) → i < length xs → get_or xs i 0 ≡ get_or ys i 0) → xs ≡ ys
same_numbers [] [] e same = refl
same_numbers [] (y ∷ ys) e same = absurd (omega arith)
same_numbers (x ∷ xs) [] e same = absurd (omega arith)
same_numbers (x ∷ xs) (y ∷ ys) e same =
    let first : x ≡ y = same 0 (omega arith) in
    let rest : xs ≡ ys = same_numbers xs ys (omega arith) (λ i l. same (suc i) (omega arith)) in
    rw (first, rest) refl

pub same_listed : (P : ℕ → Type 0) (n : ℕ) (xs ys : List ℕ) → ListsWhere P n xs → ListsWhere P n ys → xs ≡ ys
same_listed P n xs ys a b = same_ascending xs ys a.ascending b.ascending
    (λ z has. let known = a.only z has in b.all z known.0 known.1 known.2)
    (λ z has. let known = b.only z has in a.all z known.0 known.1 known.2)

-- ---- where all equations can have unknowns there is no deficit

covered : (f : ℕ → ℕ) (n : ℕ) → ((i : ℕ) → i < n → f i ≢ 0) → count_below f n ≡ n
covered f zero all = refl
covered f (suc n) all =
    let here = sign_some (f n) (all n (omega arith)) in
    let rest = covered f n (λ i l. all i (omega arith)) in
    omega (arith, here, rest)

counted : (f : ℕ → ℕ) (n : ℕ) → count_below f n ≤ n
counted f zero = omega arith
counted f (suc n) =
    let rest = counted f n in
    elim (sign_cases (f n)) [ inl e ↦ omega (arith, rest, e.1) | inr e ↦ omega (arith, rest, e.1) ]

tight_mentions : (g : Signature) (c d : ℕ → ℕ) (i j : ℕ) → IsTight g c d i j → Mentions g i j
unfolding IsTight Mentions
tight_mentions g c d i j tight = (tight.0, tight.1, tight.2)

module _ (g : Signature) (c d t : ℕ → ℕ) (tight : Assigns (IsTight g c d) (equations g) t) (covers : CoversAll g t) where
  none_deficient : (i : ℕ) → i < equations g → IsInDeficit g i → ⊥
  none_deficient i l deficient =
      let most = deficient.1.most t (record { allowed = λ k kl some. tight_mentions g c d k (t k) (tight.allowed k kl some); apart = tight.apart }) in
      let all = covered t (equations g) covers in
      let few = counted deficient.0 (equations g) in
      count_full deficient.0 (equations g) (omega (arith, most, all, few)) i l deficient.2

  pub no_deficit_holds : (deficient mentioned : List ℕ) (k : ℕ) → k ≢ 0 → IsDeficit g deficient mentioned k → ⊥
  no_deficit_holds deficient mentioned k some deficit =
      let excess = deficit.excess in
      let longer : 0 < length deficient = omega (arith, excess, some) in
      let known = deficit.equations.only (get_or deficient 0 0) (at_contains deficient (get_or deficient 0 0) 0 longer refl) in
      let there = known.2 in
      none_deficient there.0 (omega (arith, known.1, there.1)) there.2

-- ---- reasons

one_reason : (g : Signature) (c d t : ℕ → ℕ) (i k x : ℕ) → IsReason g c d t i k → IsReason g c d t i x → k ≡ x
one_reason g c d t i k x a b = elim (a.first x b.rank b.candidate b.is_rank) [
  | inl l ↦ elim (b.first k a.rank a.candidate a.is_rank) [
    | inl h ↦ absurd (omega (arith, l, h))
    | inr e ↦ absurd (omega (arith, l, e.0))
  ]
  | inr e ↦ elim (b.first k a.rank a.candidate a.is_rank) [
    | inl h ↦ absurd (omega (arith, e.0, h))
    | inr f ↦ omega (arith, e.1, f.1)
  ]
]

module _ (g : Signature) (c d t by to : ℕ → ℕ) (reason : (i : ℕ) → i < equations g → c i ≢ 0 → IsReason g c d t i (by i))
    (reason' : (i : ℕ) → i < equations g → c i ≢ 0 → IsReason g c d t i (to i)) where
  pub same_reasons : (n : ℕ) → n ≤ equations g → listed_reasons c by n ≡ listed_reasons c to n
  same_reasons zero l = refl
  same_reasons (suc n) l =
      let rest = same_reasons n (omega arith) in
      elim (eqb_tells (c n) 0) [
        | inl e ↦ rw e.0 rest
        | inr e ↦
            let same : by n ≡ to n = one_reason g c d t n (by n) (to n) (reason n (omega arith) e.1) (reason' n (omega arith) e.1) in
            rw (e.0, rest, same) refl
      ]

-- ---- rows

-- the unknowns of the entries ascend from j on
record Ascend (j : ℕ) (es : List (ℕ × ℕ)) : Type 0 where
  from : (k : ℕ) → k < length es → j ≤ (get_or es k (0, 0)).0
  up : (k : ℕ) → k + 1 < length es → (get_or es k (0, 0)).0 < (get_or es (k + 1) (0, 0)).0

ascend_later : (j : ℕ) (es : List (ℕ × ℕ)) → Ascend (j + 1) es → Ascend j es
ascend_later j es a = record { from = λ k l. (let low = a.from k l in omega (arith, low)); up = a.up }

ascend_first : (j x : ℕ) (es : List (ℕ × ℕ)) → Ascend (j + 1) es → Ascend j ((j, x) ∷ es)
ascend_first j x es a = record { from = low; up = rise }
  where
    low : (k : ℕ) → k < length ((j, x) ∷ es) → j ≤ (get_or ((j, x) ∷ es) k (0, 0)).0
    low zero l = omega arith
    low (suc k) l = let above = a.from k (omega arith) in omega (arith, above)

    rise : (k : ℕ) → k + 1 < length ((j, x) ∷ es) → (get_or ((j, x) ∷ es) k (0, 0)).0 < (get_or ((j, x) ∷ es) (k + 1) (0, 0)).0
    rise zero l = let above = a.from 0 (omega arith) in omega (arith, above)
    rise (suc k) l = let next = a.up k (omega arith) in let two : suc k + 1 ≡ suc (k + 1) = omega arith in rw two next

ascend_entry : (j : ℕ) (order : Option ℕ) (es : List (ℕ × ℕ)) → Ascend (j + 1) es → Ascend j (entry_of j order ++ es)
ascend_entry j None es a = ascend_later j es a
ascend_entry j (Some x) es a = ascend_first j x es a

ascend_entries : (j : ℕ) (order : ℕ → Option ℕ) (vs : List ℕ) → Ascend j (entries_from j order vs)
ascend_entries j order [] = record { from = λ k l. absurd (omega arith); up = λ k l. absurd (omega arith) }
ascend_entries j order (v ∷ vs) = ascend_entry j (order v) (entries_from (j + 1) order vs) (ascend_entries (j + 1) order vs)

none_ascend : Ascend 1 []
none_ascend = record { from = λ k l. absurd (omega arith); up = λ k l. absurd (omega arith) }

rows_ascend : (vars : List FlatVar) (qs : List FlatEquation) (i : ℕ) → Ascend 1 (get_or (map (row_of vars) qs) i [])
rows_ascend vars [] i = none_ascend
rows_ascend vars (q ∷ qs) zero = ascend_entries 1 (order_in vars q) (unknown_numbers vars)
rows_ascend vars (q ∷ qs) (suc i) = rows_ascend vars qs i

entry_ascends : (m : FlatModel) (i k : ℕ) → k + 1 < row_len (incidence_of m) i → unknown_at (incidence_of m) i k < unknown_at (incidence_of m) i (k + 1)
unfolding incidence_of row_len unknown_at
entry_ascends m i k l = (rows_ascend m.vars m.equations i).up k l

module _ (m : FlatModel) (i : ℕ) where
  rises : (n k : ℕ) → k < n → n < row_len (incidence_of m) i → unknown_at (incidence_of m) i k < unknown_at (incidence_of m) i n
  rises zero k kn nl = absurd (omega arith)
  rises (suc n) k kn nl =
      let next : n + 1 ≡ suc n = omega arith in
      let up = entry_ascends m i n (omega arith) in
      let step : unknown_at (incidence_of m) i n < unknown_at (incidence_of m) i (suc n) = rw next at up in
      elim (eqb_tells k n) [
        | inl e ↦ rw e.1 step
        | inr e ↦ let before = rises n k (omega (arith, e.1)) (omega arith) in omega (arith, before, step)
      ]

  -- an unknown has one entry in a row
  pub one_entry : (k n : ℕ) → k < row_len (incidence_of m) i → n < row_len (incidence_of m) i → unknown_at (incidence_of m) i k ≡ unknown_at (incidence_of m) i n → n ≡ k
  one_entry k n kl nl same = elim (cases_lt k n) [
    | inl h ↦ absurd (let up = rises n k h nl in omega (arith, up, same))
    | inr h ↦ elim (cases_lt n k) [
      | inl h' ↦ absurd (let up = rises k n h' kl in omega (arith, up, same))
      | inr h' ↦ omega arith
    ]
  ]
