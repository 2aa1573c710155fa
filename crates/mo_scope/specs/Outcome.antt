-- Outcomes of a definition: a value, or the first rule that is broken, with its place.
use Rattle.std.specs.Prelude.{◌≡◌, Option, Some, None, Result, Ok, Err}
use Rattle.mo_syntax.specs.Outcome.{Outcome}
use Rattle.mo_syntax.specs.declared.place.Broken.{Broken}
use Rattle.mo_syntax.specs.declared.place.Stop.{Stop}
use Rattle.mo_syntax.specs.declared.place.Stop.TheVariants.{Broken as broken_by, NoMemory as no_memory}

-- the first broken rule, or a value where none is
abbrev pub unless_broken : {A : Type 0} → Option Broken → A → Outcome A
unless_broken None value = Ok value
unless_broken (Some broken) value = Err broken

-- the answer is this outcome, seen so; want of memory says nothing
abbrev pub Gives : {T A : Type 0} → (T → A) → Result T Stop → Outcome A → Type 0
Gives view (Ok value) told = told ≡ Ok (view value)
Gives view (Err (broken_by broken)) told = told ≡ Err broken
Gives view (Err no_memory) told = Unit {0}
