-- Answers of a walk, operand by operand.
use Rattle.std.proofs.Common.{◌≡◌, Result, Ok, subst}
use Rattle.mo_syntax.specs.Outcome.{Outcome}
use Rattle.mo_values.specs.declared.halt.Halt.{Halt}
use Rattle.mo_values.specs.Told.{Reads, Tells}

-- a value that is answered
pub tells : {A : Type 0} {read : Reads} (a : A) (told : Outcome A) → told ≡ Ok a → Tells {T = A} read (Ok a) told
tells a told e = record { answers = e }

-- the same outcome in other words
pub told_as : {A : Type 0} {read : Reads} (answer : Result A Halt) (a b : Outcome A) → a ≡ b → Tells read answer a → Tells read answer b
told_as {read = read} answer a b e h = subst (Tells read answer) e h
