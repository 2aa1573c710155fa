-- What the counted equations of the code stand for.
use Rattle.std.specs.Prelude.{◌≡◌, ℕ, ◌+◌, ◌≤◌, [], ◌∷◌, length, sum_by, Option, Some, None}
use Rattle.mo_syntax.specs.declared.place.Place.{Place}
use Rattle.mo_flat.specs.declared.connect.Connect.{Connect}
use Rattle.mo_flat.specs.declared.expr.FlatExpr.{FlatExpr}
use Rattle.mo_flat.specs.declared.model.FlatAssert.{FlatAssert}
use Rattle.mo_flat.specs.declared.model.FlatEquation.{FlatEquation}
use Rattle.mo_equations.specs.declared.flat.Flat.{Flat}
use Rattle.mo_equations.specs.declared.made.Made.{Made as MadeAt}
use Rattle.mo_equations.specs.Gathering.{Made, beside, made_connects, made_equations}
use Rattle.mo_equations.specs.Size.{most_nodes, nodes_of_assert, nodes_of_equation}
use Rattle.mo_equations.specs.steps.Flats.{IsFlat, capped}

abbrev pub nodes_of_made : Made → ℕ
nodes_of_made made = sum_by nodes_of_equation made.equations + sum_by nodes_of_assert made.asserts

-- Its counts are those of what it stands for. Equations and asserts are kept unless there are too many nodes.
pub record IsMade (held : MadeAt) (made : Made) : Type 0 where
  pub count : held.count ≡ capped (length made.equations)
  pub nodes : held.nodes ≡ capped (nodes_of_made made)
  pub equations : nodes_of_made made ≤ most_nodes → held.equations ≡ made.equations
  pub asserts : nodes_of_made made ≤ most_nodes → held.asserts ≡ made.asserts
  pub connects : held.connects ≡ made.connects

abbrev pub IsFlatOption : Option Flat → Option FlatExpr → Type 0
IsFlatOption None None = Unit {0}
IsFlatOption (Some flat) (Some e) = IsFlat flat e
IsFlatOption flat e = ⊥

-- counts and connects stay, and all the rest does where there are not too many nodes
pub record IsSettled (old new : MadeAt) : Type 0 where
  pub count : new.count ≡ old.count
  pub nodes : new.nodes ≡ old.nodes
  pub connects : new.connects ≡ old.connects
  pub equations : old.nodes ≤ most_nodes → new.equations ≡ old.equations
  pub asserts : old.nodes ≤ most_nodes → new.asserts ≡ old.asserts

-- an equation of these sides stands behind what was made
abbrev pub HasEquation : (old new : MadeAt) (left right : Flat) → Place → Type 0
HasEquation old new left right place =
    (made : Made) (l r : FlatExpr) → IsMade old made → IsFlat left l → IsFlat right r → IsMade new (beside made (made_equations (record { left = l; right = r; place = place } ∷ [])))

-- a connect stands behind what was made
abbrev pub HasConnect : (old new : MadeAt) → Connect → Type 0
HasConnect old new connect = (made : Made) → IsMade old made → IsMade new (beside made (made_connects (connect ∷ [])))

-- what comes of other equations stands behind what was made
abbrev pub HasAll : (old new more : MadeAt) → Type 0
HasAll old new more = (made others : Made) → IsMade old made → IsMade more others → IsMade new (beside made others)

-- ---- parts that are built

abbrev pub equation_with : Option FlatExpr → Option FlatExpr → Place → Option FlatEquation
equation_with (Some left) (Some right) place = Some (record { left = left; right = right; place = place })
equation_with left right place = None

abbrev pub assert_with : Option FlatExpr → Option FlatExpr → Option (Option FlatExpr) → Option FlatAssert
assert_with (Some condition) (Some message) (Some level) = Some (record { condition = condition; message = message; level = level })
assert_with condition message level = None

abbrev pub level_with : Option Flat → ℕ × Option (Option FlatExpr)
level_with None = (0, Some None)
level_with (Some flat) = level_in flat.nodes flat.built
  where
    level_in : ℕ → Option FlatExpr → ℕ × Option (Option FlatExpr)
    level_in nodes (Some e) = (nodes, Some (Some e))
    level_in nodes None = (nodes, None)
