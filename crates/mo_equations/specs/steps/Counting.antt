-- The variables of scalar expressions, and what these weigh where each variable has a weight.
use Rattle.std.specs.Prelude.{ℕ, ◌+◌, ◌-◌, List, [], ◌∷◌, ◌++◌, flat_map, sum_by, Option, Some, slice_get}
use Rattle.mo_flat.specs.declared.expr.FlatExpr.{FlatExpr, FlatExpr-F, fold-FlatExpr}
use Rattle.mo_equations.specs.declared.flat.Flat.{Flat}

-- ---- variables

abbrev pub variables_node : FlatExpr-F (List ℕ) → List ℕ
variables_node (FlatExpr-F.Whole n) = []
variables_node (FlatExpr-F.Decimal text) = []
variables_node (FlatExpr-F.Str text) = []
variables_node (FlatExpr-F.Truth b) = []
variables_node (FlatExpr-F.Literal text) = []
variables_node FlatExpr-F.Time = []
variables_node (FlatExpr-F.Var n order) = n ∷ []
variables_node (FlatExpr-F.Der inner) = inner
variables_node (FlatExpr-F.Sum terms) = flat_map (λ term. term.1) terms
variables_node (FlatExpr-F.Product factors) = flat_map (λ factor. factor.1) factors
variables_node (FlatExpr-F.Power base exponent) = base ++ exponent
variables_node (FlatExpr-F.Call function args) = flat_map (λ arg. arg) args
variables_node (FlatExpr-F.Relation op left right) = left ++ right
variables_node (FlatExpr-F.Not inner) = inner
variables_node (FlatExpr-F.All parts) = flat_map (λ part. part) parts
variables_node (FlatExpr-F.Any parts) = flat_map (λ part. part) parts
variables_node (FlatExpr-F.If branches other) = flat_map (λ branch. branch.0 ++ branch.1) branches ++ other

-- the numbers of variables from left to right, each as often as it stands there
abbrev pub variables_in : FlatExpr → List ℕ
variables_in = fold-FlatExpr (List ℕ) variables_node

-- ---- weights

-- as nodes are counted, a variable counting its weight
abbrev pub weight_node : (ℕ → ℕ) → FlatExpr-F ℕ → ℕ
weight_node variable (FlatExpr-F.Whole n) = 1
weight_node variable (FlatExpr-F.Decimal text) = 1
weight_node variable (FlatExpr-F.Str text) = 1
weight_node variable (FlatExpr-F.Truth b) = 1
weight_node variable (FlatExpr-F.Literal text) = 1
weight_node variable FlatExpr-F.Time = 1
weight_node variable (FlatExpr-F.Var n order) = variable n
weight_node variable (FlatExpr-F.Der inner) = 1 + inner
weight_node variable (FlatExpr-F.Sum terms) = 1 + sum_by (λ term. term.1) terms
weight_node variable (FlatExpr-F.Product factors) = 1 + sum_by (λ factor. factor.1) factors
weight_node variable (FlatExpr-F.Power base exponent) = 1 + (base + exponent)
weight_node variable (FlatExpr-F.Call function args) = 1 + sum_by (λ arg. arg) args
weight_node variable (FlatExpr-F.Relation op left right) = 1 + (left + right)
weight_node variable (FlatExpr-F.Not inner) = 1 + inner
weight_node variable (FlatExpr-F.All parts) = 1 + sum_by (λ part. part) parts
weight_node variable (FlatExpr-F.Any parts) = 1 + sum_by (λ part. part) parts
weight_node variable (FlatExpr-F.If branches other) = 1 + (sum_by (λ branch. branch.0 + branch.1) branches + other)

abbrev pub weight : (ℕ → ℕ) → FlatExpr → ℕ
weight variable = fold-FlatExpr ℕ (weight_node variable)

-- the weight of a variable by the list of what replaces it
abbrev pub weight_at : List (Option Flat) → ℕ → ℕ
weight_at replaced n = weight_in (slice_get replaced (n - 1))
  where
    weight_in : Option (Option Flat) → ℕ
    weight_in (Some (Some flat)) = flat.nodes
    weight_in other = 0
