-- Subscripts one after another.
use Rattle.std.proofs.Common.{◌≡◌, ℕ, zero, suc, ◌+◌, ◌<◌, ◌≤◌, ℤ, List, [], ◌∷◌, ◌++◌, length, drop, get_or, Option, Some, None, Ok, Err, refl, ap, sym, ◌∙◌, ⊎_elim, append_assoc, length-append, add-one, arith}
use Rattle.std.specs.Prelude.{slice_get}
use Rattle.std.proofs.lemmas.Bool.{cases_lt}
use Rattle.std.proofs.lemmas.List.{append-nil, drop_all, drop_more}
use Rattle.mo_syntax.specs.Outcome.{Outcome, and_then}
use Rattle.mo_syntax.specs.declared.place.Place.{Place}
use Rattle.mo_syntax.specs.declared.place.Stop.{Stop}
use Rattle.mo_syntax.specs.declared.place.Stop.TheVariants.{Broken as broken_by, NoMemory as no_memory}
use Rattle.mo_flat.specs.declared.array.Subscript.{Subscript}
use Rattle.mo_typing.specs.Dims.{Dims}
use Rattle.mo_typing.specs.Indices.{Index, numbers_to}
use Rattle.mo_typing.specs.Outcome.{each, Gives}
use Rattle.mo_values.specs.Scalars.{Known}
use Rattle.mo_eval.specs.Virtuals.{Element}
use Rattle.mo_eval.specs.Contexts.{Part, alone, place_of}
use Rattle.mo_values.specs.Asked.{layered, only_whole, scalar_or_vector, subscript_of}
use Rattle.mo_eval.specs.References.{read_subscript, read_subscripts}
use Rattle.mo_eval.specs.steps.Subscripting.{numbers_by, subscript_at, subscript_in}
use Rattle.mo_eval.proofs.Calling.{each_more}

-- ---- outcomes

pub then_alike : {A B : Type 0} (o : Outcome A) (f g : A → Outcome B) → ((a : A) → f a ≡ g a) → and_then o f ≡ and_then o g
then_alike (Ok a) f g same = same a
then_alike (Err broken) f g same = refl

-- behind nothing
pub behind_nothing : {A : Type 0} (o : Outcome (List A)) → and_then o (λ more. Ok ([] ++ more)) ≡ o
behind_nothing (Ok more) = refl
behind_nothing (Err broken) = refl

-- what broke a rule is all
pub halts_as : {A B : Type 0} (stop : Stop) (told : Outcome A) (f : A → Outcome B) (whole : Outcome B) → Gives {T = A} (Err stop) told → and_then told f ≡ whole → Gives {T = B} (Err stop) whole
halts_as (broken_by broken) told f whole h is = sym is ∙ ap (λ o. and_then o f) h
halts_as no_memory told f whole h is = tt

pub get_same : {A : Type 0} (xs : List A) (k : ℕ) (d e : A) → k < length xs → get_or xs k d ≡ get_or xs k e
get_same [] k d e small = absurd (omega arith)
get_same (x ∷ xs) zero d e small = refl
get_same (x ∷ xs) (suc k) d e small = get_same xs k d e (omega arith)

-- ---- the numbers of a vector

length_numbers : (n : ℕ) → length (numbers_to n) ≡ n
length_numbers zero = refl
length_numbers (suc n) = length-append (numbers_to n) (suc n ∷ []) ∙ (ap (λ m. m + 1) (length_numbers n) ∙ add-one n)

get_before : {A : Type 0} (xs ys : List A) (k : ℕ) (d : A) → k < length xs → get_or (xs ++ ys) k d ≡ get_or xs k d
get_before [] ys k d small = absurd (omega arith)
get_before (x ∷ xs) ys zero d small = refl
get_before (x ∷ xs) ys (suc k) d small = get_before xs ys k d (omega arith)

get_last : {A : Type 0} (xs : List A) (y d : A) → get_or (xs ++ y ∷ []) (length xs) d ≡ y
get_last [] y d = refl
get_last (x ∷ xs) y d = get_last xs y d

at_last : (n k : ℕ) → k < suc n → n ≤ k → get_or (numbers_to n ++ suc n ∷ []) k 0 ≡ suc k
at_last n k small more =
    let counted = length_numbers n in
    let same : k ≡ length (numbers_to n) = omega arith in
    let last : n ≡ k = omega arith in
    ap (λ i. get_or (numbers_to n ++ suc n ∷ []) i 0) same ∙ (get_last (numbers_to n) (suc n) 0 ∙ ap suc last)

at_number : (n k : ℕ) → k < n → get_or (numbers_to n) k 0 ≡ suc k
at_number zero k small = absurd (omega arith)
at_number (suc n) k small =
    ⊎_elim (λ (less : k < n). get_before (numbers_to n) (suc n ∷ []) k 0 (let counted = length_numbers n in omega arith) ∙ at_number n k less) (λ (more : n ≤ k). at_last n k small more) (cases_lt k n)

numbers_left : (size k : ℕ) → k < size → drop k (numbers_to size) ≡ (k + 1) ∷ drop (k + 1) (numbers_to size)
numbers_left size k small =
    drop_more (numbers_to size) k 0 (let counted = length_numbers size in omega arith)
    ∙ ap (λ n. n ∷ drop (k + 1) (numbers_to size)) (at_number size k small ∙ sym (add-one k))

module _ (g : ℕ → Outcome ℤ) (made : List ℤ) (size k : ℕ) (whole : Outcome (List ℤ))
    (before : and_then (each g (drop k (numbers_to size))) (λ more. Ok (made ++ more)) ≡ whole) where
  opened : k < size → and_then (each g ((k + 1) ∷ drop (k + 1) (numbers_to size))) (λ more. Ok (made ++ more)) ≡ whole
  opened small = ap (λ xs. and_then (each g xs) (λ more. Ok (made ++ more))) (sym (numbers_left size k small)) ∙ before

  pub number_more : (n : ℤ) → k < size → g (k + 1) ≡ Ok n → and_then (each g (drop (k + 1) (numbers_to size))) (λ more. Ok ((made ++ n ∷ []) ++ more)) ≡ whole
  number_more n small is = sym (each_more g made (k + 1) (drop (k + 1) (numbers_to size)) n is) ∙ opened small

  pub number_halts : (stop : Stop) → k < size → Gives {T = ℤ} (Err stop) (g (k + 1)) → Gives {T = List ℤ} (Err stop) whole
  number_halts (broken_by broken) small h =
      sym (opened small) ∙ ap (λ (o : Outcome ℤ). and_then (and_then o (λ value. and_then (each g (drop (k + 1) (numbers_to size))) (λ values. Ok (value ∷ values)))) (λ more. Ok (made ++ more))) h
  number_halts no_memory small h = tt

  pub numbers_end : size ≤ k → whole ≡ Ok made
  numbers_end all =
      sym before
      ∙ (ap (λ xs. and_then (each g xs) (λ more. Ok (made ++ more))) (drop_all k (numbers_to size) (let counted = length_numbers size in omega arith))
      ∙ ap Ok (append-nil made))

-- ---- one subscript

pub by_none : (known : Index → Outcome Known) (place : Place) (dims : Dims) → None ≡ slice_get dims 0 → numbers_by known place dims ≡ numbers_by known place []
by_none known place [] is = refl
by_none known place (n ∷ dims) is = absurd (let e : ◌≡◌ {A = Option ℕ} None (Some n) = is in cc)

pub by_some : (known : Index → Outcome Known) (place : Place) (dims : Dims) (n : ℕ) → Some n ≡ slice_get dims 0 → numbers_by known place dims ≡ numbers_by known place (n ∷ [])
by_some known place [] n is = absurd (let e : ◌≡◌ {A = Option ℕ} (Some n) None = is in cc)
by_some known place (m ∷ dims) n is = let same : m ≡ n = cc in ap (λ k. numbers_by known place (k ∷ [])) same

pub subscript_by : (read : Element → Outcome Known) (size : ℕ) (part : Part) →
    read_subscript read size (Some part) ≡ and_then (alone part (subscript_of size)) (subscript_in read (place_of part))
subscript_by read size part =
    then_alike (alone part (subscript_of size)) _ _ (λ resolved.
    then_alike (layered (only_whole (place_of part)) (scalar_or_vector (place_of part)) resolved.expression) _ _
    (elim [
      | [] ↦ refl
      | n ∷ dims ↦ refl
    ]))

-- ---- all subscripts

module _ (read : Element → Outcome Known) where
  step_on : (n : ℕ) (dims : Dims) (subs : List (Option Part)) (k : ℕ) →
      read_subscripts read (n ∷ dims) (drop k subs)
      ≡ and_then (subscript_at read n (drop k subs)) (λ first. and_then (read_subscripts read dims (drop (suc k) subs)) (λ others. Ok (first ∷ others)))
  step_on n dims [] zero = refl
  step_on n dims (sub ∷ subs) zero = refl
  step_on n dims [] (suc k) = refl
  step_on n dims (sub ∷ subs) (suc k) = step_on n dims subs k

  subscripts_step : (n : ℕ) (dims : Dims) (subs : List (Option Part)) (k : ℕ) →
      read_subscripts read (n ∷ dims) (drop k subs)
      ≡ and_then (subscript_at read n (drop k subs)) (λ first. and_then (read_subscripts read dims (drop (k + 1) subs)) (λ others. Ok (first ∷ others)))
  subscripts_step n dims subs k = rw (add-one k) (step_on n dims subs k)

  module _ (made : List Subscript) (dims : Dims) (subs : List (Option Part)) (k : ℕ) (whole : Outcome (List Subscript))
      (before : and_then (read_subscripts read (drop k dims) (drop k subs)) (λ more. Ok (made ++ more)) ≡ whole) where
    stepped : (n : ℕ) → k < length dims → n ≡ get_or dims k n →
        and_then (and_then (subscript_at read n (drop k subs)) (λ first. and_then (read_subscripts read (drop (k + 1) dims) (drop (k + 1) subs)) (λ others. Ok (first ∷ others)))) (λ more. Ok (made ++ more)) ≡ whole
    stepped n small is =
        ap (λ (o : Outcome (List Subscript)). and_then o (λ more. Ok (made ++ more))) (sym (subscripts_step n (drop (k + 1) dims) subs k))
        ∙ (ap (λ xs. and_then (read_subscripts read xs (drop k subs)) (λ more. Ok (made ++ more))) (ap (λ m. m ∷ drop (k + 1) dims) is ∙ sym (drop_more dims k n small)) ∙ before)

    pub subscript_more : (n : ℕ) (first : Subscript) → k < length dims → n ≡ get_or dims k n → subscript_at read n (drop k subs) ≡ Ok first →
        and_then (read_subscripts read (drop (k + 1) dims) (drop (k + 1) subs)) (λ more. Ok ((made ++ first ∷ []) ++ more)) ≡ whole
    subscript_more n first small is has =
        sym (ap (λ (o : Outcome Subscript). and_then (and_then o (λ first. and_then (read_subscripts read (drop (k + 1) dims) (drop (k + 1) subs)) (λ others. Ok (first ∷ others)))) (λ more. Ok (made ++ more))) has
        ∙ go (read_subscripts read (drop (k + 1) dims) (drop (k + 1) subs)))
        ∙ stepped n small is
      where
        go : (o : Outcome (List Subscript)) → and_then (and_then {B = List Subscript} o (λ others. Ok (first ∷ others))) (λ more. Ok (made ++ more)) ≡ and_then o (λ more. Ok ((made ++ first ∷ []) ++ more))
        go (Ok others) = ap Ok (sym (append_assoc made (first ∷ []) others))
        go (Err broken) = refl

    pub subscript_halts : (n : ℕ) (stop : Stop) → k < length dims → n ≡ get_or dims k n → Gives {T = Subscript} (Err stop) (subscript_at read n (drop k subs)) → Gives {T = List Subscript} (Err stop) whole
    subscript_halts n (broken_by broken) small is has =
        sym (stepped n small is)
        ∙ ap (λ (o : Outcome Subscript). and_then (and_then o (λ first. and_then (read_subscripts read (drop (k + 1) dims) (drop (k + 1) subs)) (λ others. Ok (first ∷ others)))) (λ more. Ok (made ++ more))) has
    subscript_halts n no_memory small is has = tt

    pub subscripts_end : length dims ≤ k → whole ≡ Ok made
    subscripts_end all =
        sym before
        ∙ (ap (λ xs. and_then (read_subscripts read xs (drop k subs)) (λ more. Ok (made ++ more))) (drop_all k dims all) ∙ ap Ok (append-nil made))
