-- The numbers where a function is not 0, as a list.
use Rattle.std.proofs.Common.{◌≡◌, ◌≢◌, ℕ, zero, suc, ◌+◌, ◌-◌, ◌<◌, ◌≤◌, inl, inr, List, [], ◌∷◌, ◌++◌, length, get_or, Contains, refl, ap, ◌∙◌, arith, length-append}
use Rattle.std.proofs.Math.Seq.{get_or-append_seam}
use Rattle.std.proofs.Math.ListN.{get_or-append}
use Rattle.std.specs.List.Sorted.{IsStrictlyIncreasing}
use Rattle.std.proofs.lemmas.Bool.Decides.{eqb_tells}
use Rattle.mo_incidence.specs.Counting.{sign, count_below}
use Rattle.mo_incidence.proofs.Counting.{sign_zero, sign_some}
use Rattle.mo_incidence.specs.Assignment.{ListsWhere}
use Rattle.mo_match.specs.steps.Lists.{numbers_where}

pub numbers_none : (f : ℕ → ℕ) (n : ℕ) → f n ≡ 0 → numbers_where f (suc n) ≡ numbers_where f n
numbers_none f n e = rw e refl

pub numbers_some : (f : ℕ → ℕ) (n : ℕ) → f n ≢ 0 → numbers_where f (suc n) ≡ numbers_where f n ++ suc n ∷ []
numbers_some f n ne = elim (eqb_tells (f n) 0) [ inl e ↦ absurd (ne e.1) | inr e ↦ rw e.0 refl ]

pub length_numbers : (f : ℕ → ℕ) (n : ℕ) → length (numbers_where f n) ≡ count_below f n
length_numbers f zero = refl
length_numbers f (suc n) =
    let rest : length (numbers_where f n) ≡ count_below f n = length_numbers f n in
    elim (eqb_tells (f n) 0) [
      | inl e ↦
          let here : sign (f n) ≡ 0 = sign_zero (f n) e.1 in
          let same : length (numbers_where f (suc n)) ≡ length (numbers_where f n) = ap length (numbers_none f n e.1) in
          omega arith
      | inr e ↦
          let here : sign (f n) ≡ 1 = sign_some (f n) e.1 in
          let same : length (numbers_where f (suc n)) ≡ length (numbers_where f n) + 1 = ap length (numbers_some f n e.1) ∙ length-append (numbers_where f n) (suc n ∷ []) in
          omega arith
    ]

pub numbers_only : (f : ℕ → ℕ) (n k : ℕ) → k < length (numbers_where f n) → (0 < get_or (numbers_where f n) k 0) × (get_or (numbers_where f n) k 0 ≤ n) × (f (get_or (numbers_where f n) k 0 - 1) ≢ 0)
numbers_only f zero k l = absurd (omega arith)
numbers_only f (suc n) k l = elim (eqb_tells (f n) 0) [
  | inl e ↦
      let same = numbers_none f n e.1 in
      let there = numbers_only f n k (rw same at l) in
      rw same (there.0, omega (arith, there.1), there.2)
  | inr e ↦
      let same = numbers_some f n e.1 in
      let size = length-append (numbers_where f n) (suc n ∷ []) in
      let l' : k < length (numbers_where f n ++ suc n ∷ []) = rw same at l in
      elim (eqb_tells k (length (numbers_where f n))) [
        | inl z ↦
            let at : get_or (numbers_where f (suc n)) k 0 ≡ suc n = rw (same, z.1) (get_or-append_seam (numbers_where f n) (suc n) [] 0) in
            let back : suc n - 1 ≡ n = omega arith in
            rw at (omega arith, omega arith, rw back e.1)
        | inr z ↦
            let small : k < length (numbers_where f n) = omega (arith, z.1) in
            let there = numbers_only f n k small in
            let at : get_or (numbers_where f (suc n)) k 0 ≡ get_or (numbers_where f n) k 0 = rw same (get_or-append (numbers_where f n) (suc n ∷ []) 0 k small) in
            rw at (there.0, omega (arith, there.1), there.2)
      ]
]

pub numbers_all : (f : ℕ → ℕ) (n x : ℕ) → x < n → f x ≢ 0 → (k : ℕ) × (k < length (numbers_where f n)) × (get_or (numbers_where f n) k 0 ≡ suc x)
numbers_all f zero x l some = absurd (omega arith)
numbers_all f (suc n) x l some = elim (eqb_tells (f n) 0) [
  | inl e ↦
      let ne : x ≢ n = λ same. some (rw same e.1) in
      let there = numbers_all f n x (omega arith) some in
      rw (numbers_none f n e.1) there
  | inr e ↦
      let same = numbers_some f n e.1 in
      let size = length-append (numbers_where f n) (suc n ∷ []) in
      rw same (elim (eqb_tells x n) [
        | inl z ↦ (length (numbers_where f n), omega arith, rw z.1 (get_or-append_seam (numbers_where f n) (suc n) [] 0))
        | inr z ↦
            let there = numbers_all f n x (omega (arith, z.1)) some in
            (there.0, omega (arith, there.1), get_or-append (numbers_where f n) (suc n ∷ []) 0 there.0 there.1 ∙ there.2)
      ])
]

pub numbers_ascend : (f : ℕ → ℕ) (n : ℕ) → IsStrictlyIncreasing (numbers_where f n)
numbers_ascend f zero k l = absurd (omega arith)
numbers_ascend f (suc n) k l = elim (eqb_tells (f n) 0) [
  | inl e ↦
      let same = numbers_none f n e.1 in
      rw same (numbers_ascend f n k (rw same at l))
  | inr e ↦
      let same = numbers_some f n e.1 in
      let size = length-append (numbers_where f n) (suc n ∷ []) in
      let l' : k + 1 < length (numbers_where f n ++ suc n ∷ []) = rw same at l in
      let inside : k < length (numbers_where f n) = omega arith in
      let low : get_or (numbers_where f (suc n)) k 0 ≡ get_or (numbers_where f n) k 0 = rw same (get_or-append (numbers_where f n) (suc n ∷ []) 0 k inside) in
      elim (eqb_tells (k + 1) (length (numbers_where f n))) [
        | inl z ↦
            let high : get_or (numbers_where f (suc n)) (k + 1) 0 ≡ suc n = rw (same, z.1) (get_or-append_seam (numbers_where f n) (suc n) [] 0) in
            let there = numbers_only f n k inside in
            rw (low, high) (omega (arith, there.1))
        | inr z ↦
            let small : k + 1 < length (numbers_where f n) = omega (arith, z.1) in
            let high : get_or (numbers_where f (suc n)) (k + 1) 0 ≡ get_or (numbers_where f n) (k + 1) 0 = rw same (get_or-append (numbers_where f n) (suc n ∷ []) 0 (k + 1) small) in
            rw (low, high) (numbers_ascend f n k small)
      ]
]

pub contains_at : (xs : List ℕ) (x : ℕ) → Contains xs x → (k : ℕ) × (k < length xs) × (get_or xs k 0 ≡ x)
contains_at xs x (k, l, e) = (k, l, at_default xs k x 0 l ∙ e)
  where
    at_default : (ys : List ℕ) (i d e : ℕ) → i < length ys → get_or ys i e ≡ get_or ys i d
    at_default [] i d e l = absurd (omega arith)
    at_default (y ∷ ys) zero d e l = refl
    at_default (y ∷ ys) (suc i) d e l = at_default ys i d e (omega arith)

pub at_contains : (xs : List ℕ) (x k : ℕ) → k < length xs → get_or xs k 0 ≡ x → Contains xs x
at_contains xs x k l e = (k, l, at_default xs k 0 x l ∙ e)
  where
    at_default : (ys : List ℕ) (i d e : ℕ) → i < length ys → get_or ys i e ≡ get_or ys i d
    at_default [] i d e l = absurd (omega arith)
    at_default (y ∷ ys) zero d e l = refl
    at_default (y ∷ ys) (suc i) d e l = at_default ys i d e (omega arith)

-- the list has exactly the numbers of which P holds
pub lists_where : {P : ℕ → Type 0} (f : ℕ → ℕ) (n : ℕ) → ((x : ℕ) → x < n → f x ≢ 0 → P (suc x)) → ((x : ℕ) → x < n → P (suc x) → f x ≢ 0)
    → ListsWhere P n (numbers_where f n)
lists_where {P} f n only all = record {
  ascending = numbers_ascend f n;
  only = λ x has.
      let there = contains_at (numbers_where f n) x has in
      let known = numbers_only f n there.0 there.1 in
      let above : 0 < x = rw there.2 at known.0 in
      let below : x ≤ n = rw there.2 at known.1 in
      let some : f (x - 1) ≢ 0 = rw there.2 at known.2 in
      let back : suc (x - 1) ≡ x = omega arith in
      (above, below, rw back at (only (x - 1) (omega arith) some));
  all = λ x above below holds.
      let back : suc (x - 1) ≡ x = omega arith in
      let there = numbers_all f n (x - 1) (omega arith) (all (x - 1) (omega arith) (rw back holds)) in
      at_contains (numbers_where f n) x there.0 there.1 (there.2 ∙ back);
}

pub numbers_few : (f : ℕ → ℕ) (n : ℕ) → length (numbers_where f n) ≤ n
numbers_few f zero = omega arith
numbers_few f (suc n) =
    let rest : length (numbers_where f n) ≤ n = numbers_few f n in
    elim (eqb_tells (f n) 0) [
      | inl e ↦ let same : length (numbers_where f (suc n)) ≡ length (numbers_where f n) = ap length (numbers_none f n e.1) in omega arith
      | inr e ↦
          let same : length (numbers_where f (suc n)) ≡ length (numbers_where f n) + 1 = ap length (numbers_some f n e.1) ∙ length-append (numbers_where f n) (suc n ∷ []) in
          omega arith
    ]
