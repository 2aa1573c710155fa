-- Outcomes of a definition: a value, or the first rule that is broken, with its place.
use Rattle.std.specs.Prelude.{◌≡◌, List, [], ◌∷◌, Result, Ok, Err}
use Rattle.mo_syntax.specs.Outcome.{Outcome, and_then}
use Rattle.mo_syntax.specs.declared.place.Stop.{Stop}
use Rattle.mo_syntax.specs.declared.place.Stop.TheVariants.{Broken as broken_by, NoMemory as no_memory}

-- what each gives in turn, or the first broken rule among them
abbrev pub each : {A B : Type 0} → (A → Outcome B) → List A → Outcome (List B)
each f [] = Ok []
each f (x ∷ xs) = and_then (f x) (λ value. and_then (each f xs) (λ values. Ok (value ∷ values)))

-- the answer is this outcome; want of memory says nothing
abbrev pub Gives : {T : Type 0} → Result T Stop → Outcome T → Type 0
Gives (Ok value) told = told ≡ Ok value
Gives (Err (broken_by broken)) told = told ≡ Err broken
Gives (Err no_memory) told = Unit {0}
