-- Ascending lists that grow at their ends.
use Rattle.std.proofs.Common.{◌≡◌, ℕ, zero, suc, ◌+◌, ◌<◌, inl, inr, List, [], ◌∷◌, ◌++◌, Contains, get_or, length, refl, arith, length-append}
use Rattle.std.specs.Prelude.{◌⊎◌}
use Rattle.std.proofs.Math.ListN.{get_or-append}
use Rattle.std.proofs.Math.Seq.{get_or-append_seam}
use Rattle.std.proofs.lemmas.Bool.{cases_eq}
use Rattle.std.specs.List.Sorted.{IsStrictlyIncreasing}
use Rattle.mo_graph.proofs.Members.{at_contains}

pub ascend_none : IsStrictlyIncreasing []
ascend_none k l = absurd (omega (arith, l))

pub ascend_put : (xs : List ℕ) (x : ℕ) → IsStrictlyIncreasing xs → ((y : ℕ) → Contains xs y → y < x) → IsStrictlyIncreasing (xs ++ x ∷ [])
ascend_put xs x rises above k l =
    let size = length-append xs (x ∷ []) in
    let inside : k < length xs = omega (arith, size, l) in
    let low : get_or (xs ++ x ∷ []) k 0 ≡ get_or xs k 0 = get_or-append xs (x ∷ []) 0 k inside in
    elim (cases_eq (k + 1) (length xs)) [
      | inl e ↦
          let high : get_or (xs ++ x ∷ []) (k + 1) 0 ≡ x = rw e (get_or-append_seam xs x [] 0) in
          let less : get_or xs k 0 < x = above (get_or xs k 0) (at_contains xs (get_or xs k 0) k inside refl) in
          rw (low, high) less
      | inr e ↦
          let small : k + 1 < length xs = omega (arith, e, inside) in
          let high : get_or (xs ++ x ∷ []) (k + 1) 0 ≡ get_or xs (k + 1) 0 = get_or-append xs (x ∷ []) 0 (k + 1) small in
          rw (low, high) (rises k small)
    ]

module _ {A : Type 0} where
  pub contains_last : (xs : List A) (x : A) → Contains (xs ++ x ∷ []) x
  contains_last [] x = (0, omega arith, refl)
  contains_last (y ∷ xs) x = let h = contains_last xs x in (suc h.0, omega (arith, h.1), h.2)

  pub contains_kept : (xs : List A) (x y : A) → Contains xs y → Contains (xs ++ x ∷ []) y
  contains_kept [] x y h = absurd (let l = h.1 in omega (arith, l))
  contains_kept (z ∷ xs) x y (zero, l, e) = (0, omega arith, e)
  contains_kept (z ∷ xs) x y (suc k, l, e) = let h = contains_kept xs x y (k, omega (arith, l), e) in (suc h.0, omega (arith, h.1), h.2)

  pub contains_put : (xs : List A) (x y : A) → Contains (xs ++ x ∷ []) y → Contains xs y ⊎ (x ≡ y)
  contains_put [] x y (zero, l, e) = inr e
  contains_put [] x y (suc k, l, e) = absurd (omega (arith, l))
  contains_put (z ∷ xs) x y (zero, l, e) = inl (0, omega arith, e)
  contains_put (z ∷ xs) x y (suc k, l, e) = by (contains_put xs x y (k, omega (arith, l), e))
    where
      by : Contains xs y ⊎ (x ≡ y) → Contains (z ∷ xs) y ⊎ (x ≡ y)
      by (inl (j, m, f)) = inl (suc j, omega (arith, m), f)
      by (inr f) = inr f
