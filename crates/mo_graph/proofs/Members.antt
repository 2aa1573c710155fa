-- Lists of the numbers where a function has one value.
use Rattle.std.proofs.Common.{◌≡◌, ◌≢◌, ℕ, zero, suc, ◌+◌, ◌-◌, ◌<◌, ◌≤◌, inl, inr, List, [], ◌∷◌, ◌++◌, length, get_or, Contains, refl, ◌∙◌, arith, length-append}
use Rattle.std.proofs.Math.Seq.{get_or-append_seam}
use Rattle.std.proofs.Math.ListN.{get_or-append}
use Rattle.std.specs.List.Sorted.{IsStrictlyIncreasing}
use Rattle.std.proofs.lemmas.Bool.Decides.{eqb_tells}
use Rattle.mo_graph.specs.steps.Listing.{members}

pub members_none : (f : ℕ → ℕ) (q n : ℕ) → f n ≢ q → members f q (suc n) ≡ members f q n
members_none f q n ne = elim (eqb_tells (f n) q) [ inl e ↦ absurd (ne e.1) | inr e ↦ rw e.0 refl ]

pub members_some : (f : ℕ → ℕ) (q n : ℕ) → f n ≡ q → members f q (suc n) ≡ members f q n ++ suc n ∷ []
members_some f q n same = elim (eqb_tells (f n) q) [ inl e ↦ rw e.0 refl | inr e ↦ absurd (e.1 same) ]

pub members_only : (f : ℕ → ℕ) (q n k : ℕ) → k < length (members f q n) → (0 < get_or (members f q n) k 0) × (get_or (members f q n) k 0 ≤ n) × (f (get_or (members f q n) k 0 - 1) ≡ q)
members_only f q zero k l = absurd (omega arith)
members_only f q (suc n) k l = elim (eqb_tells (f n) q) [
  | inr e ↦
      let same = members_none f q n e.1 in
      let there = members_only f q n k (rw same at l) in
      rw same (there.0, omega (arith, there.1), there.2)
  | inl e ↦
      let same = members_some f q n e.1 in
      let size = length-append (members f q n) (suc n ∷ []) in
      let l' : k < length (members f q n ++ suc n ∷ []) = rw same at l in
      elim (eqb_tells k (length (members f q n))) [
        | inl z ↦
            let at : get_or (members f q (suc n)) k 0 ≡ suc n = rw (same, z.1) (get_or-append_seam (members f q n) (suc n) [] 0) in
            let back : suc n - 1 ≡ n = omega arith in
            rw at (omega arith, omega arith, rw back e.1)
        | inr z ↦
            let small : k < length (members f q n) = omega (arith, z.1) in
            let there = members_only f q n k small in
            let at : get_or (members f q (suc n)) k 0 ≡ get_or (members f q n) k 0 = rw same (get_or-append (members f q n) (suc n ∷ []) 0 k small) in
            rw at (there.0, omega (arith, there.1), there.2)
      ]
]

pub members_all : (f : ℕ → ℕ) (q n x : ℕ) → x < n → f x ≡ q → (k : ℕ) × (k < length (members f q n)) × (get_or (members f q n) k 0 ≡ suc x)
members_all f q zero x l is = absurd (omega arith)
members_all f q (suc n) x l is = elim (eqb_tells (f n) q) [
  | inr e ↦
      let ne : x ≢ n = λ same. e.1 (rw (← same) is) in
      let there = members_all f q n x (omega arith) is in
      rw (members_none f q n e.1) there
  | inl e ↦
      let same = members_some f q n e.1 in
      let size = length-append (members f q n) (suc n ∷ []) in
      rw same (elim (eqb_tells x n) [
        | inl z ↦ (length (members f q n), omega arith, rw z.1 (get_or-append_seam (members f q n) (suc n) [] 0))
        | inr z ↦
            let there = members_all f q n x (omega (arith, z.1)) is in
            (there.0, omega (arith, there.1), get_or-append (members f q n) (suc n ∷ []) 0 there.0 there.1 ∙ there.2)
      ])
]

pub members_ascend : (f : ℕ → ℕ) (q n : ℕ) → IsStrictlyIncreasing (members f q n)
members_ascend f q zero k l = absurd (omega arith)
members_ascend f q (suc n) k l = elim (eqb_tells (f n) q) [
  | inr e ↦
      let same = members_none f q n e.1 in
      rw same (members_ascend f q n k (rw same at l))
  | inl e ↦
      let same = members_some f q n e.1 in
      let size = length-append (members f q n) (suc n ∷ []) in
      let l' : k + 1 < length (members f q n ++ suc n ∷ []) = rw same at l in
      let inside : k < length (members f q n) = omega arith in
      let low : get_or (members f q (suc n)) k 0 ≡ get_or (members f q n) k 0 = rw same (get_or-append (members f q n) (suc n ∷ []) 0 k inside) in
      elim (eqb_tells (k + 1) (length (members f q n))) [
        | inl z ↦
            let high : get_or (members f q (suc n)) (k + 1) 0 ≡ suc n = rw (same, z.1) (get_or-append_seam (members f q n) (suc n) [] 0) in
            let there = members_only f q n k inside in
            rw (low, high) (omega (arith, there.1))
        | inr z ↦
            let small : k + 1 < length (members f q n) = omega (arith, z.1) in
            let high : get_or (members f q (suc n)) (k + 1) 0 ≡ get_or (members f q n) (k + 1) 0 = rw same (get_or-append (members f q n) (suc n ∷ []) 0 (k + 1) small) in
            rw (low, high) (members_ascend f q n k small)
      ]
]

at_default : (ys : List ℕ) (i d e : ℕ) → i < length ys → get_or ys i e ≡ get_or ys i d
at_default [] i d e l = absurd (omega arith)
at_default (y ∷ ys) zero d e l = refl
at_default (y ∷ ys) (suc i) d e l = at_default ys i d e (omega arith)

pub contains_at : (xs : List ℕ) (x : ℕ) → Contains xs x → (k : ℕ) × (k < length xs) × (get_or xs k 0 ≡ x)
contains_at xs x (k, l, e) = (k, l, at_default xs k x 0 l ∙ e)

pub at_contains : (xs : List ℕ) (x k : ℕ) → k < length xs → get_or xs k 0 ≡ x → Contains xs x
at_contains xs x k l e = (k, l, at_default xs k 0 x l ∙ e)

-- the first number is the least
pub first_least : (xs : List ℕ) → IsStrictlyIncreasing xs → (k : ℕ) → k < length xs → get_or xs 0 0 ≤ get_or xs k 0
first_least xs rises zero l = omega arith
first_least xs rises (suc k) l =
    let before : get_or xs 0 0 ≤ get_or xs k 0 = first_least xs rises k (omega arith) in
    let next : get_or xs k 0 < get_or xs (k + 1) 0 = rises k (omega arith) in
    let same : k + 1 ≡ suc k = omega arith in
    let next' : get_or xs k 0 < get_or xs (suc k) 0 = rw same at next in
    omega arith

pub least_contained : (xs : List ℕ) (x : ℕ) → IsStrictlyIncreasing xs → Contains xs x → (get_or xs 0 0 ≤ x) × (0 < length xs)
least_contained xs x rises has = let at = contains_at xs x has in (rw at.2 at (first_least xs rises at.0 at.1), omega (arith, at.1))

pub members_contain : (f : ℕ → ℕ) (q n x : ℕ) → Contains (members f q n) x → (0 < x) × (x ≤ n) × (f (x - 1) ≡ q)
members_contain f q n x has = let at = contains_at (members f q n) x has in rw at.2 at (members_only f q n at.0 at.1)

pub contain_members : (f : ℕ → ℕ) (q n x : ℕ) → x < n → f x ≡ q → Contains (members f q n) (suc x)
contain_members f q n x l e = let at = members_all f q n x l e in at_contains (members f q n) (suc x) at.0 at.1 at.2
