-- What each of some elements gives in turn, by those that are left.
use Rattle.std.proofs.Common.{◌≡◌, ℕ, zero, suc, ◌+◌, ◌<◌, ◌≤◌, List, [], ◌∷◌, ◌++◌, length, map, drop, get_or, Ok, Err, refl, ap, ◌∙◌, sym, append_assoc, arith}
use Rattle.std.proofs.lemmas.List.{append-nil, drop_more}
use Rattle.mo_syntax.specs.Outcome.{Outcome, and_then}
use Rattle.mo_syntax.specs.declared.place.Broken.{Broken}
use Rattle.mo_syntax.specs.declared.place.Stop.{Stop}
use Rattle.mo_syntax.specs.declared.place.Stop.TheVariants.{Broken as broken_by, NoMemory as no_memory}
use Rattle.mo_typing.specs.Outcome as told
use Rattle.mo_typing.specs.Outcome.{each}

pub each_mapped : {A B C : Type 0} (f : B → Outcome C) (h : A → B) (xs : List A) → each f (map h xs) ≡ each (λ x. f (h x)) xs
each_mapped f h [] = refl
each_mapped {C = C} f h (x ∷ xs) = ap (λ (o : Outcome (List C)). and_then (f (h x)) (λ value. and_then o (λ values. Ok (value ∷ values)))) (each_mapped f h xs)

-- what was made, and what comes of the elements from a place on
abbrev pub Left : {A B : Type 0} → (A → Outcome B) → List A → ℕ → List B → Outcome (List B)
Left f xs i made = and_then (each f (drop i xs)) (λ more. Ok (made ++ more))

pub left_start : {A B : Type 0} (f : A → Outcome B) (xs : List A) → Left f xs 0 [] ≡ each f xs
left_start {B = B} f xs = go (each f xs)
  where
    go : (o : Outcome (List B)) → and_then o (λ more. Ok ([] ++ more)) ≡ o
    go (Ok more) = refl
    go (Err broken) = refl

dropped : {A : Type 0} (xs : List A) (i : ℕ) (x : A) → i < length xs → x ≡ get_or xs i x → drop i xs ≡ x ∷ drop (i + 1) xs
dropped xs i x small is = drop_more xs i x small ∙ ap (λ z. z ∷ drop (i + 1) xs) (sym is)

pub left_more : {A B : Type 0} (f : A → Outcome B) (xs : List A) (i : ℕ) (made : List B) (x : A) (y : B) → i < length xs → x ≡ get_or xs i x →
    f x ≡ Ok y → Left f xs (i + 1) (made ++ y ∷ []) ≡ Left f xs i made
left_more {A} {B} f xs i made x y small is h =
    sym (ap (λ ys. and_then (each f ys) (λ more. Ok (made ++ more))) (dropped xs i x small is)
    ∙ (ap (λ (o : Outcome B). and_then (and_then o (λ value. and_then (each f (drop (i + 1) xs)) (λ values. Ok (value ∷ values)))) (λ more. Ok (made ++ more))) h
    ∙ go (each f (drop (i + 1) xs))))
  where
    go : (o : Outcome (List B)) → and_then (and_then {B = List B} o (λ values. Ok (y ∷ values))) (λ more. Ok (made ++ more)) ≡ and_then o (λ more. Ok ((made ++ y ∷ []) ++ more))
    go (Ok values) = ap Ok (sym (append_assoc made (y ∷ []) values))
    go (Err broken) = refl

pub left_halts : {A B : Type 0} (f : A → Outcome B) (xs : List A) (i : ℕ) (made : List B) (x : A) (broken : Broken) → i < length xs → x ≡ get_or xs i x →
    f x ≡ Err broken → Left f xs i made ≡ Err broken
left_halts {A} {B} f xs i made x broken small is h =
    ap (λ ys. and_then (each f ys) (λ more. Ok (made ++ more))) (dropped xs i x small is)
    ∙ ap (λ (o : Outcome B). and_then (and_then o (λ value. and_then (each f (drop (i + 1) xs)) (λ values. Ok (value ∷ values)))) (λ more. Ok (made ++ more))) h

none_left : {A : Type 0} (xs : List A) (i : ℕ) → length xs ≤ i → drop i xs ≡ []
none_left [] zero above = refl
none_left [] (suc i) above = refl
none_left (x ∷ xs) zero above = let h : suc (length xs) ≤ 0 = above in absurd (omega arith)
none_left (x ∷ xs) (suc i) above = none_left xs i (omega arith)

pub left_end : {A B : Type 0} (f : A → Outcome B) (xs : List A) (i : ℕ) (made : List B) → length xs ≤ i → Left f xs i made ≡ Ok made
left_end f xs i made above = ap (λ ys. and_then (each f ys) (λ more. Ok (made ++ more))) (none_left xs i above) ∙ ap Ok (append-nil made)

-- what each of some elements gives, and of more behind them
pub each_append : {A B : Type 0} (f : A → Outcome B) (xs ys : List A) → each f (xs ++ ys) ≡ and_then (each f xs) (λ made. and_then (each f ys) (λ more. Ok (made ++ more)))
each_append {B = B} f [] ys = go (each f ys)
  where
    go : (o : Outcome (List B)) → o ≡ and_then o (λ more. Ok ([] ++ more))
    go (Ok more) = refl
    go (Err broken) = refl
each_append {A} {B} f (x ∷ xs) ys = first (f x) (each_append f xs ys)
  where
    last : (value : B) (made : List B) (o : Outcome (List B)) →
        and_then (and_then {B = List B} o (λ more. Ok (made ++ more))) (λ values. Ok (value ∷ values)) ≡ and_then o (λ more. Ok ((value ∷ made) ++ more))
    last value made (Ok more) = refl
    last value made (Err broken) = refl

    rest : (value : B) (o : Outcome (List B)) →
        and_then (and_then o (λ made. and_then (each f ys) (λ more. Ok (made ++ more)))) (λ values. Ok (value ∷ values))
        ≡ and_then (and_then {B = List B} o (λ values. Ok (value ∷ values))) (λ made. and_then (each f ys) (λ more. Ok (made ++ more)))
    rest value (Ok made) = last value made (each f ys)
    rest value (Err broken) = refl

    first : (o : Outcome B) → each f (xs ++ ys) ≡ and_then (each f xs) (λ made. and_then (each f ys) (λ more. Ok (made ++ more))) →
        and_then o (λ value. and_then (each f (xs ++ ys)) (λ values. Ok (value ∷ values)))
        ≡ and_then (and_then {B = List B} o (λ value. and_then (each f xs) (λ values. Ok (value ∷ values)))) (λ made. and_then (each f ys) (λ more. Ok (made ++ more)))
    first (Ok value) more = ap (λ (o : Outcome (List B)). and_then o (λ values. Ok (value ∷ values))) more ∙ rest value (each f xs)
    first (Err broken) more = refl

pub each_both : {A B : Type 0} (f : A → Outcome B) (xs ys : List A) (as_ bs : List B) → each f xs ≡ Ok as_ → each f ys ≡ Ok bs → each f (xs ++ ys) ≡ Ok (as_ ++ bs)
each_both f xs ys as_ bs h k = each_append f xs ys ∙ rw (h, k) refl

pub each_fails : {A B : Type 0} (f : A → Outcome B) (xs ys : List A) (as_ : List B) (broken : Broken) → each f xs ≡ Ok as_ → each f ys ≡ Err broken → each f (xs ++ ys) ≡ Err broken
each_fails f xs ys as_ broken h k = each_append f xs ys ∙ rw (h, k) refl

pub each_stops : {A B : Type 0} (f : A → Outcome B) (xs ys : List A) (x : A) (as_ : List B) (stop : Stop) → each f xs ≡ Ok as_ → told.Gives {T = B} (Err stop) (f x) →
    told.Gives {T = List B} (Err stop) (each f (xs ++ x ∷ ys))
each_stops f xs ys x as_ (broken_by broken) h k = each_fails f xs (x ∷ ys) as_ broken h (rw k refl)
each_stops f xs ys x as_ no_memory h k = tt

pub each_more : {A B : Type 0} (f : A → Outcome B) (xs : List A) (x : A) (as_ : List B) (b : B) → each f xs ≡ Ok as_ → f x ≡ Ok b → each f (xs ++ x ∷ []) ≡ Ok (as_ ++ b ∷ [])
each_more f xs x as_ b h k = each_both f xs (x ∷ []) as_ (b ∷ []) h (rw k refl)
