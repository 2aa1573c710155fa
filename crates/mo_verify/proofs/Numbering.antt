-- The numbers of unknowns, as a table is filled from the last name to the first.
use Rattle.std.proofs.Common.{◌≡◌, ℕ, zero, suc, ◌+◌, ◌<◌, Bool, true, false, List, [], ◌∷◌, drop, length, get_or, Option, Some, None, refl, sym, ap, ◌∙◌, arith}
use Rattle.std.proofs.lemmas.List.{drop_more, get_or_default}
use Rattle.std.specs.Prelude.{option_map, if◌then◌else◌}
use Rattle.std.specs.Cmp.Lexicographic.{bytes_decides, nat_list_eq_equiv}
use Rattle.std.specs.Str.{bytes_eq}
use Rattle.mo_verify.specs.Reading.{number_of}

counted : (n : ℕ) (o : Option ℕ) → option_map (λ j. j + n) (option_map (λ j. j + 1) o) ≡ option_map (λ j. j + (n + 1)) o
counted n None = refl
counted n (Some k) = ap Some (omega arith)

pub at_default : (names : List (List ℕ)) (i : ℕ) (x : List ℕ) → x ≡ get_or names i x → i < length names → x ≡ get_or names i []
at_default names i x is below = is ∙ get_or_default names i x [] below

pub one_more : (names : List (List ℕ)) (n at : ℕ) (name key : List ℕ) (old new : Option ℕ) → at ≡ n + 1 → n < length names → key ≡ get_or names n []
    → old ≡ option_map (λ j. j + at) (number_of (drop at names) name) → new ≡ (if bytes_eq key name then Some (n + 1) else old) → new ≡ option_map (λ j. j + n) (number_of (drop n names) name)
one_more names n at name key old new next below is_key was is = rw (drop_more names n [] below) (go (bytes_eq (get_or names n []) name) refl)
  where
    was_next : old ≡ option_map (λ j. j + (n + 1)) (number_of (drop (n + 1) names) name)
    was_next = rw next at was

    is_here : new ≡ (if bytes_eq (get_or names n []) name then Some (n + 1) else old)
    is_here = rw is_key at is

    go : (b : Bool) → bytes_eq (get_or names n []) name ≡ b → new ≡ option_map (λ j. j + n) (number_of (get_or names n [] ∷ drop (n + 1) names) name)
    go true e = is_here ∙ rw e (ap Some (omega arith))
    go false e = is_here ∙ rw e (was_next ∙ sym (counted n (number_of (drop (n + 1) names) name)))

-- names that differ have their own numbers
pub numbered_name : (names : List (List ℕ)) (j : ℕ) → j < length names → ((i k : ℕ) → i < length names → k < length names → get_or names i [] ≡ get_or names k [] → i ≡ k) → number_of names (get_or names j []) ≡ Some (j + 1)
numbered_name [] j below apart = absurd (omega arith)
numbered_name (x ∷ names) zero below apart = rw (nat_list_eq_equiv.refl x) refl
numbered_name (x ∷ names) (suc j) below apart = go (bytes_eq x (get_or names j [])) refl (numbered_name names j (omega arith) (λ i k il kl e. omega (arith, apart (suc i) (suc k) (omega arith) (omega arith) e)))
  where
    go : (b : Bool) → bytes_eq x (get_or names j []) ≡ b → number_of names (get_or names j []) ≡ Some (j + 1) → number_of (x ∷ names) (get_or names j []) ≡ Some (suc j + 1)
    go true e later = absurd (omega (arith, apart 0 (suc j) (omega arith) below ((bytes_decides x (get_or names j [])).0 e)))
    go false e later = rw (e, later) (ap Some (omega arith))
