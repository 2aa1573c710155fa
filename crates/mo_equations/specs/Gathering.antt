-- What comes of equations, gathered in their order, and how many turns of loops are taken (Modelica Language Specification 3.5, sections
-- 8.2 and 8.3).
use Rattle.std.specs.Prelude.{ℕ, ◌+◌, List, [], ◌∷◌, ◌++◌, Ok, if◌then◌else◌, nat_lt}
use Rattle.mo_syntax.specs.Outcome.{Outcome, and_then, breaks}
use Rattle.mo_syntax.specs.declared.place.Place.{Place}
use Rattle.mo_flat.specs.declared.connect.Connect.{Connect}
use Rattle.mo_flat.specs.declared.model.FlatAssert.{FlatAssert}
use Rattle.mo_flat.specs.declared.model.FlatEquation.{FlatEquation}
use Rattle.mo_syntax.specs.declared.rules.TheConstants.{FLAT_MODEL_TOO_LARGE}

-- ---- what equations give

-- Scalar equations, asserts and connects, each in their order.
pub record Made : Type 0 where
  pub equations : List FlatEquation
  pub asserts : List FlatAssert
  pub connects : List Connect

abbrev pub nothing : Made
nothing = record { equations = []; asserts = []; connects = [] }

abbrev pub made_equations : List FlatEquation → Made
made_equations equations = record { equations = equations; asserts = []; connects = [] }

abbrev pub made_assert : FlatAssert → Made
made_assert assert = record { equations = []; asserts = assert ∷ []; connects = [] }

abbrev pub made_connects : List Connect → Made
made_connects connects = record { equations = []; asserts = []; connects = connects }

abbrev pub beside : Made → Made → Made
beside a b = record {
  equations = a.equations ++ b.equations;
  asserts = a.asserts ++ b.asserts;
  connects = a.connects ++ b.connects;
}

-- ---- turns of loops

-- What is made where so many turns of loops were taken before, with the turns that were taken then.
abbrev pub Turning : Type 0 → Type 0
Turning A = (turns : ℕ) → Outcome (A × ℕ)

abbrev pub turn_none : {A : Type 0} → Outcome A → Turning A
turn_none outcome turns = and_then outcome (λ a. Ok (a, turns))

abbrev pub turn_then : {A B : Type 0} → Turning A → (A → Turning B) → Turning B
turn_then first f turns = and_then (first turns) (λ made. f made.0 made.1)

-- all turns of all for-equations together
abbrev pub most_turns : ℕ
most_turns = 4000000

-- One more turn; where there are too many, rule 41 is broken at the name of the asked class.
abbrev pub one_turn : {A : Type 0} → Place → Turning A → Turning A
one_turn asked turn turns = if nat_lt turns most_turns then turn (turns + 1) else breaks FLAT_MODEL_TOO_LARGE asked

-- what each makes in turn
abbrev pub turn_each : {A B : Type 0} → (A → Turning B) → List A → Turning (List B)
turn_each make [] = turn_none (Ok [])
turn_each make (x ∷ xs) = turn_then (make x) (λ first. turn_then (turn_each make xs) (λ others. turn_none (Ok (first ∷ others))))

abbrev pub all_beside : List Made → Made
all_beside [] = nothing
all_beside (made ∷ others) = beside made (all_beside others)

abbrev pub gathered : {A : Type 0} → (A → Turning Made) → List A → Turning Made
gathered make xs = turn_then (turn_each make xs) (λ made. turn_none (Ok (all_beside made)))
