-- The numbers of a range.
use Rattle.std.proofs.Common.{◌≡◌, ℕ, ℤ, zero, suc, ◌+◌, ◌<◌, ◌≤◌, ◌⊎◌, inl, inr, List, [], ◌∷◌, ◌++◌, length, map, Some, refl, ap, sym, ◌∙◌, subst, arith, length-append}
use Rattle.std.specs.Prelude.{slice_get, option_map}
use Rattle.std.proofs.lemmas.Bool.{cases_lt}
use Rattle.std.proofs.lemmas.Option.{slice_get-map}
use Rattle.mo_typing.specs.Indices.{numbers_to, range_element}

pub length_numbers : (n : ℕ) → length (numbers_to n) ≡ n
length_numbers zero = refl
length_numbers (suc n) = length-append (numbers_to n) (suc n ∷ []) ∙ one (length (numbers_to n)) n (length_numbers n)
  where
    one : (a b : ℕ) → a ≡ b → a + 1 ≡ suc b
    one a b h = omega (arith, h)

length_mapped : {A B : Type 0} (h : A → B) (xs : List A) → length (map h xs) ≡ length xs
length_mapped h [] = refl
length_mapped h (x ∷ xs) = ap suc (length_mapped h xs)

pub range_length : (first step : ℤ) (count : ℕ) → length (map (λ k. range_element first step (k ∷ [])) (numbers_to count)) ≡ count
range_length first step count = length_mapped (λ k. range_element first step (k ∷ [])) (numbers_to count) ∙ length_numbers count

front : (xs ys : List ℕ) (k : ℕ) → k < length xs → slice_get (xs ++ ys) k ≡ slice_get xs k
front [] ys k small = let h : k < 0 = small in absurd (omega (arith, h))
front (x ∷ xs) ys zero small = refl
front (x ∷ xs) ys (suc k) small = front xs ys k (omega (arith, small))

last : (xs : List ℕ) (y k : ℕ) → k ≡ length xs → slice_get (xs ++ y ∷ []) k ≡ Some y
last [] y zero h = refl
last [] y (suc k) h = let e : suc k ≡ 0 = h in absurd (omega (arith, e))
last (x ∷ xs) y zero h = let e : 0 ≡ suc (length xs) = h in absurd (omega (arith, e))
last (x ∷ xs) y (suc k) h = last xs y k (omega (arith, h))

pub number_at : (n k : ℕ) → k < n → slice_get (numbers_to n) k ≡ Some (k + 1)
number_at zero k small = let h : k < 0 = small in absurd (omega (arith, h))
number_at (suc n) k small = at (number_at n k) (cases_lt k n)
  where
    at : (k < n → slice_get (numbers_to n) k ≡ Some (k + 1)) → (k < n) ⊎ (n ≤ k) → slice_get (numbers_to n ++ suc n ∷ []) k ≡ Some (k + 1)
    at before (inl less) = front (numbers_to n) (suc n ∷ []) k (subst (λ m. k < m) (sym (length_numbers n)) less) ∙ before less
    at before (inr above) =
        let same : k ≡ n = omega (arith, small, above) in
        last (numbers_to n) (suc n) k (same ∙ sym (length_numbers n)) ∙ ap (λ m. Some m) (one k n same)
      where
        one : (a b : ℕ) → a ≡ b → suc b ≡ a + 1
        one a b h = omega (arith, h)

-- the number of a range with so many before it
pub range_at : (first step : ℤ) (count k : ℕ) → k < count → slice_get (map (λ k. range_element first step (k ∷ [])) (numbers_to count)) k ≡ Some (range_element first step ((k + 1) ∷ []))
range_at first step count k small =
    slice_get-map (λ k. range_element first step (k ∷ [])) (numbers_to count) k ∙ ap (option_map (λ k. range_element first step (k ∷ []))) (number_at count k small)
