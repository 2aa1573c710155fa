-- How the variables of a resolved expression are read one after another.
--
-- A walk halts at the first variable that it needs and that is not read. An element of a component is read elsewhere; a call of `div`,
-- `mod` or `rem` is a walk of its operands, with the variables before it.
use Rattle.std.specs.Prelude.{◌≡◌, ℕ, ◌-◌, List, Some, Result, Ok, Err, length, slice_get}
use Rattle.mo_syntax.specs.Outcome.{Outcome}
use Rattle.mo_syntax.specs.declared.place.Stop.{Stop}
use Rattle.mo_syntax.specs.declared.place.Stop.TheVariants.{Broken as broken_by, NoMemory as no_memory}
use Rattle.mo_flat.specs.declared.array.ArrayExpr.{ArrayExpr}
use Rattle.mo_scope.specs.Frames.{Frame}
use Rattle.mo_typing.specs.Indices.{Index}
use Rattle.mo_eval.specs.declared.reading.Step.{Step}
use Rattle.mo_eval.specs.declared.reading.Step.TheVariants.{Known as known_step, Read, Divided}
use Rattle.mo_values.specs.Scalars.{Known}
use Rattle.mo_values.specs.Told.{AreRead, Reads, IsUnread}
use Rattle.mo_values.specs.Walk.{known_by}
use Rattle.mo_eval.specs.declared.virtuals.Virtual.{Virtual as VirtualAt}
use Rattle.mo_eval.specs.Seen.{virtuals_seen}
use Rattle.mo_eval.specs.Virtuals.{Element, Virtual, Component_element, known_of_virtuals, numbered}

-- it stands for an element of a component
pub record IsComponent (it : Virtual) : Type 0 where
  pub element : Element
  pub is : it ≡ Component_element element

-- so does the variable of that number
pub record IsElement (virtuals : List Virtual) (n : ℕ) : Type 0 where
  pub it : Virtual
  pub found : slice_get virtuals (n - 1) ≡ Some it
  pub component : IsComponent it

-- what is told where the outcome of a walk is this: the outcome, an element that is not read yet, or what a call has that is not read yet
abbrev pub IsStep : (Element → Outcome Known) → List Virtual → Reads → Result Step Stop → Outcome Known → Type 0
IsStep read virtuals reads (Ok (known_step known)) told = told ≡ Ok known
IsStep read virtuals reads (Ok (Read n)) told = IsUnread reads n × IsElement virtuals n
IsStep read virtuals reads (Ok (Divided n outcome)) told = IsUnread reads n × (slice_get (known_of_virtuals read virtuals) (n - 1) ≡ Some outcome)
IsStep read virtuals reads (Err (broken_by broken)) told = told ≡ Err broken
IsStep read virtuals reads (Err no_memory) told = Unit {0}

-- that where the element of an expression is wanted, whatever its variables have of which so much is read
abbrev pub IsNextStep : List VirtualAt → Reads → Result Step Stop → ArrayExpr → Index → Type 0
IsNextStep virtuals reads result e index =
    (frames : List Frame) (read : Element → Outcome Known) → AreRead reads (numbered (known_of_virtuals read (virtuals_seen frames virtuals)))
    → IsStep read (virtuals_seen frames virtuals) reads result (known_by (numbered (known_of_virtuals read (virtuals_seen frames virtuals))) e index)

-- nothing is read of so many variables
abbrev pub AreUnread : Reads → ℕ → Type 0
AreUnread reads count = (known : List (Outcome Known)) → length known ≡ count → AreRead reads (numbered known)

-- besides what was read, it is read what the variable of that number has
abbrev pub ReadsOneMore : (old new : Reads) → ℕ → Outcome Known → Type 0
ReadsOneMore old new n outcome = (known : List (Outcome Known)) → AreRead old (numbered known) → slice_get known (n - 1) ≡ Some outcome → AreRead new (numbered known)
