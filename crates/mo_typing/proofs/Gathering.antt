-- Loops over the operands of an operation, by what is left of them.
use Rattle.std.proofs.Common.{◌≡◌, ℕ, suc, ◌+◌, ◌<◌, ◌≤◌, List, [], ◌∷◌, map, length, drop, get_or, Result, Ok, Err, refl, ap, sym, ◌∙◌, subst, add-one, drop-cons}
use Rattle.std.specs.Prelude.{fold}
use Rattle.std.proofs.lemmas.List.{drop_all}
use Rattle.mo_syntax.specs.Outcome.{Outcome, and_then}
use Rattle.mo_syntax.specs.declared.place.Broken.{Broken}
use Rattle.mo_syntax.specs.declared.place.Stop.{Stop}
use Rattle.mo_syntax.specs.declared.place.Stop.TheVariants.{Broken as broken_by, NoMemory as no_memory}
use Rattle.mo_typing.specs.Outcome.{each, Gives}

-- what an operation on these operands gives, where those before them gave s
abbrev pub gathered : {X P Y S T : Type 0} → (X → P) → (P → Outcome Y) → (S → Y → S) → (S → Outcome T) → S → List X → Outcome T
gathered part asked step finish s xs = and_then (each asked (map part xs)) (λ ys. finish (fold step s ys))

prepended : {Y S T : Type 0} (step : S → Y → S) (finish : S → Outcome T) (s : S) (y : Y) (ys : Outcome (List Y)) →
    and_then (and_then ys (λ zs. Ok (y ∷ zs))) (λ zs. finish (fold step s zs)) ≡ and_then ys (λ zs. finish (fold step (step s y) zs))
prepended step finish s y (Ok zs) = refl
prepended step finish s y (Err b) = refl

first : {X P Y S T : Type 0} (part : X → P) (asked : P → Outcome Y) (step : S → Y → S) (finish : S → Outcome T) (s : S) (x : X) (xs : List X) (y : Y) →
    asked (part x) ≡ Ok y → gathered part asked step finish s (x ∷ xs) ≡ gathered part asked step finish (step s y) xs
first part asked step finish s x xs y h = rw h (prepended step finish s y (each asked (map part xs)))

stops : {X P Y S T : Type 0} (part : X → P) (asked : P → Outcome Y) (step : S → Y → S) (finish : S → Outcome T) (s : S) (x : X) (xs : List X) (b : Broken) →
    asked (part x) ≡ Err b → gathered part asked step finish s (x ∷ xs) ≡ Err b
stops part asked step finish s x xs b h = rw h refl

-- the first of what is left
pub opened : {X T : Type 0} (f : List X → T) (xs : List X) (i : ℕ) (x : X) → i < length xs → x ≡ get_or xs i x → f (x ∷ drop (i + 1) xs) ≡ f (drop i xs)
opened f xs i x small is = ap f (rw add-one (ap (λ y. y ∷ drop (suc i) xs) is ∙ sym (drop-cons xs i x small)))

-- one more operand has a value
pub one_more : {X P Y S T : Type 0} (part : X → P) (asked : P → Outcome Y) (step : S → Y → S) (finish : S → Outcome T) (s : S) (xs : List X) (i : ℕ) (x : X) (y : Y) (whole : Outcome T) →
    i < length xs → gathered part asked step finish s (drop i xs) ≡ whole → x ≡ get_or xs i x → asked (part x) ≡ Ok y →
    gathered part asked step finish (step s y) (drop (i + 1) xs) ≡ whole
one_more part asked step finish s xs i x y whole small before is h =
    sym (first part asked step finish s x (drop (i + 1) xs) y h) ∙ (opened (gathered part asked step finish s) xs i x small is ∙ before)

-- one more operand breaks a rule
pub one_stops : {X P Y S T : Type 0} (part : X → P) (asked : P → Outcome Y) (step : S → Y → S) (finish : S → Outcome T) (s : S) (xs : List X) (i : ℕ) (x : X) (b : Broken) (whole : Outcome T) →
    i < length xs → gathered part asked step finish s (drop i xs) ≡ whole → x ≡ get_or xs i x → asked (part x) ≡ Err b →
    Err b ≡ whole
one_stops part asked step finish s xs i x b whole small before is h =
    sym (stops part asked step finish s x (drop (i + 1) xs) b h) ∙ (opened (gathered part asked step finish s) xs i x small is ∙ before)

-- the same of a call that may want memory
pub one_stops_by : {X P Y S T : Type 0} (part : X → P) (asked : P → Outcome Y) (step : S → Y → S) (finish : S → Outcome T) (s : S) (xs : List X) (i : ℕ) (x : X) (stop : Stop) (whole : Outcome T) →
    i < length xs → gathered part asked step finish s (drop i xs) ≡ whole → x ≡ get_or xs i x → Gives {T = Y} (Err stop) (asked (part x)) →
    Gives {T = T} (Err stop) whole
one_stops_by part asked step finish s xs i x (broken_by b) whole small before is h = sym (one_stops part asked step finish s xs i x b whole small before is h)
one_stops_by part asked step finish s xs i x no_memory whole small before is h = tt

-- nothing is left
pub ended : {X T : Type 0} (f : List X → T) (xs : List X) (i : ℕ) (whole : T) → length xs ≤ i → f (drop i xs) ≡ whole → f [] ≡ whole
ended f xs i whole all before = ap f (sym (drop_all i xs all)) ∙ before

-- the value of a branch comes after its condition
pub asked_first : {A B : Type 0} (condition : Outcome A) (a : A) (value told : Outcome B) → condition ≡ Ok a → value ≡ told → and_then condition (λ _. value) ≡ told
asked_first condition a value told h k = rw h k

pub refused_first : {A B : Type 0} (condition : Outcome A) (b : Broken) (value : Outcome B) → condition ≡ Err b → and_then condition (λ _. value) ≡ Err b
refused_first condition b value h = rw h refl

-- an operand that stops stops what is made of it
pub stops_through : {A B : Type 0} (stop : Stop) (told : Outcome A) (f : A → Outcome B) → Gives {T = A} (Err stop) told → Gives {T = B} (Err stop) (and_then told f)
stops_through (broken_by b) told f h = rw h refl
stops_through no_memory told f h = tt

pub stops_first : {A B : Type 0} (stop : Stop) (condition : Outcome A) (a : A) (value : Outcome B) → condition ≡ Ok a → Gives {T = B} (Err stop) value → Gives {T = B} (Err stop) (and_then condition (λ _. value))
stops_first stop condition a value h k = rw h k

pub given_first : {A B : Type 0} (told : Outcome A) (a : A) (f : A → Outcome B) → told ≡ Ok a → and_then told f ≡ f a
given_first told a f h = rw h refl

pub gives_as : {T : Type 0} (answer : Result T Stop) (a b : Outcome T) → a ≡ b → Gives answer a → Gives answer b
gives_as answer a b h k = subst (Gives answer) h k
