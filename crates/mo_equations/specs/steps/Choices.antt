-- What the branches of an if-equation stand for, and the equations in which they are joined.
use Rattle.std.specs.Prelude.{◌≡◌, ℕ, pos, ◌+◌, ◌-◌, ◌*◌, Bool, List, [], ◌∷◌, length, sum_by, slice_get, Option, Some, None, Result, Ok, nat_eq}
use Rattle.std.specs.List.{list_all}
use Rattle.mo_syntax.specs.Outcome.{Outcome, and_then, breaks}
use Rattle.mo_syntax.specs.declared.place.Place.{Place}
use Rattle.mo_syntax.specs.declared.place.Stop.{Stop}
use Rattle.mo_flat.specs.declared.expr.FlatExpr.{FlatExpr}
use Rattle.mo_flat.specs.declared.expr.FlatExpr as flat
use Rattle.mo_flat.specs.declared.model.FlatEquation.{FlatEquation}
use Rattle.mo_scope.specs.Places.{Every}
use Rattle.mo_typing.specs.Indices.{numbers_to}
use Rattle.mo_typing.specs.Outcome.{each}
use Rattle.mo_equations.specs.declared.flat.Flat.{Flat}
use Rattle.mo_equations.specs.declared.joining.Choice.{Choice as ChoiceAt}
use Rattle.mo_equations.specs.declared.made.Made.{Made as MadeAt}
use Rattle.mo_equations.specs.Gathering.{Made}
use Rattle.mo_equations.specs.Joining.{Choice, difference, made_if}
use Rattle.mo_equations.specs.steps.Flats.{Answers, IsFlat}
use Rattle.mo_equations.specs.steps.Makings.{IsMade}

abbrev pub AreBranches : List (Flat × MadeAt) → List (FlatExpr × Made) → Type 0
AreBranches [] [] = Unit {0}
AreBranches (branch ∷ branches) (one ∷ others) = IsFlat branch.0 one.0 × IsMade branch.1 one.1 × AreBranches branches others
AreBranches branches others = ⊥

pub record IsChoice (held : ChoiceAt) (choice : Choice) : Type 0 where
  pub branches : AreBranches held.branches choice.0
  pub other : IsMade held.other choice.1

-- branches that are joined have no asserts
abbrev pub IsBare : Choice → Type 0
IsBare ([], other) = Unit {0}
IsBare (branch ∷ branches, other) = Every (λ (one : FlatExpr × Made). one.1.asserts ≡ []) (branch ∷ branches) × (other.asserts ≡ [])

abbrev pub counts_are_equal : List (Flat × MadeAt) → MadeAt → Bool
counts_are_equal branches other = list_all (λ branch. nat_eq branch.1.count other.count) branches

-- Whatever choice the branches stand for, the answer is what is made of it.
abbrev pub GivesJoined : Result MadeAt Stop → Place → ChoiceAt → Type 0
GivesJoined result place held = (choice : Choice) → IsChoice held choice → IsBare choice → Answers IsMade result (made_if place choice)

-- ---- equation by equation

-- what is there; a rule that none has the number of where nothing is
abbrev pub what_is : {A : Type 0} → Option A → Outcome A
what_is (Some a) = Ok a
what_is None = breaks 0 (record { file = 0; byte = 0 })

-- the difference of the equation with so many before it
abbrev pub difference_at : MadeAt → ℕ → Outcome FlatExpr
difference_at made k = and_then (what_is (slice_get made.equations k)) (λ q. Ok (difference q))

abbrev pub branch_at : ℕ → Flat × MadeAt → Outcome (FlatExpr × FlatExpr)
branch_at k branch = and_then (what_is branch.0.built) (λ condition. and_then (difference_at branch.1 k) (λ value. Ok (condition, value)))

-- the joined equation with so many before it
abbrev pub joined_at : Place → ChoiceAt → ℕ → Outcome FlatEquation
joined_at place held k =
    and_then (each (branch_at k) held.branches) (λ branches.
    and_then (difference_at held.other k) (λ other. Ok (record { left = flat.Whole (pos 0); right = flat.If branches other; place = place })))

abbrev pub all_joined : Place → ChoiceAt → ℕ → Outcome (List FlatEquation)
all_joined place held count = each (λ n. joined_at place held (n - 1)) (numbers_to count)

-- the nodes of all joined equations
abbrev pub nodes_joined : List (Flat × MadeAt) → MadeAt → ℕ
nodes_joined branches other =
    (sum_by (λ branch. branch.0.nodes) branches + length branches + 3) * other.count + sum_by (λ branch. branch.1.nodes) branches + other.nodes
