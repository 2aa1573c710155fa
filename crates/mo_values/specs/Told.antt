-- What is told of virtual variables that are read only where they are needed.
--
-- A walk is given what is read so far. It answers with what is known, whatever the variables have that are not read yet, or with the
-- number of a variable that has to be read first.
use Rattle.std.specs.Prelude.{◌≡◌, ℕ, ◌-◌, List, Option, Some, None, Result, Ok, Err, slice_get}
use Rattle.mo_syntax.specs.Outcome.{Outcome}
use Rattle.mo_values.specs.declared.halt.Halt.{Halt}
use Rattle.mo_values.specs.declared.halt.Halt.TheVariants.{Broken as broken_by, NoMemory as no_memory, Unread}
use Rattle.mo_flat.specs.declared.array.ArrayExpr.{ArrayExpr}
use Rattle.mo_typing.specs.Indices.{Index}
use Rattle.mo_values.specs.Scalars.{Known}
use Rattle.mo_values.specs.Walk.{known_by}

-- what is read of each variable, none where it is not read yet
abbrev pub Reads : Type 0
Reads = List (Option (Outcome Known))

-- What a variable has, by what is read of it: a number that no variable has stands for what is undecided.
abbrev pub IsRead : Option (Option (Outcome Known)) → Outcome Known → Type 0
IsRead None outcome = outcome ≡ Ok None
IsRead (Some None) outcome = Unit {0}
IsRead (Some (Some told)) outcome = outcome ≡ told

-- All that is read is what the variables have.
pub record AreRead (read : Reads) (variable : ℕ → Outcome Known) : Type 0 where
  pub each : (n : ℕ) → IsRead (slice_get read (n - 1)) (variable n)

-- A variable is in the list, and it is not read yet.
abbrev pub IsUnread : Reads → ℕ → Type 0
IsUnread read n = slice_get read (n - 1) ≡ Some None

abbrev pub IsAnswer : {T : Type 0} → Reads → Result T Halt → Outcome T → Type 0
IsAnswer read (Ok value) told = told ≡ Ok value
IsAnswer read (Err (broken_by broken)) told = told ≡ Err broken
IsAnswer read (Err no_memory) told = Unit {0}
IsAnswer read (Err (Unread n)) told = IsUnread read n

-- The answer is this outcome, or a variable that is not read yet; want of memory says nothing.
pub record Tells {T : Type 0} (read : Reads) (answer : Result T Halt) (told : Outcome T) : Type 0 where
  pub answers : IsAnswer read answer told

-- What is told of an element of an expression, whatever the variables have of which so much is read.
abbrev pub TellsElement : Reads → Result Known Halt → ArrayExpr → Index → Type 0
TellsElement read answer e index = (variable : ℕ → Outcome Known) → AreRead read variable → Tells read answer (known_by variable e index)
