-- The highest order at which an unknown stands in an expression once its derivatives are carried out (Pryce 2001 calls
-- the table of these orders sigma). Conditions of if-expressions are left aside.
use Rattle.std.specs.Prelude.{ℕ, max, List, [], ◌∷◌, Option, Some, None, if◌then◌else◌, map, nat_eq}
use Rattle.mo_flat.specs.declared.expr.FlatExpr.{FlatExpr, FlatExpr-F, fold-FlatExpr}
use Rattle.mo_flat.specs.declared.model.FlatVar.{FlatVar}
use Rattle.mo_symdiff.specs.Carried.{carried}

-- the higher of two orders, where either is there
abbrev pub higher : Option ℕ → Option ℕ → Option ℕ
higher None b = b
higher (Some j) None = Some j
higher (Some j) (Some k) = Some (max j k)

abbrev pub highest_of : List (Option ℕ) → Option ℕ
highest_of [] = None
highest_of (order ∷ orders) = higher order (highest_of orders)

abbrev pub highest_node : ℕ → FlatExpr-F (Option ℕ) → Option ℕ
highest_node v (FlatExpr-F.Var variable order) = if nat_eq variable v then Some order else None
highest_node v (FlatExpr-F.Der inner) = inner
highest_node v (FlatExpr-F.Sum terms) = highest_of (map (λ term. term.1) terms)
highest_node v (FlatExpr-F.Product factors) = highest_of (map (λ factor. factor.1) factors)
highest_node v (FlatExpr-F.Power base exponent) = higher base exponent
highest_node v (FlatExpr-F.Call function args) = highest_of args
highest_node v (FlatExpr-F.Relation op left right) = higher left right
highest_node v (FlatExpr-F.Not inner) = inner
highest_node v (FlatExpr-F.All parts) = highest_of parts
highest_node v (FlatExpr-F.Any parts) = highest_of parts
highest_node v (FlatExpr-F.If branches other) = higher (highest_of (map (λ branch. branch.1) branches)) other
highest_node v _ = None

-- the highest order at which a variable, by its number, stands in an expression
abbrev pub highest : ℕ → FlatExpr → Option ℕ
highest v = fold-FlatExpr (Option ℕ) (highest_node v)

abbrev pub sigma : List FlatVar → FlatExpr → ℕ → Option ℕ
sigma vars e v = highest v (carried vars e)
