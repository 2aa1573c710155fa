-- What an expression depends on: whether it moves with time, and whether a variable from outside stands in it. Conditions
-- of if-expressions are left aside: they choose, and are not differentiated.
use Rattle.std.specs.Prelude.{Bool, true, false, ◌&&◌, ◌||◌, List, not}
use Rattle.std.specs.List.{list_all, list_any}
use Rattle.mo_flat.specs.declared.expr.FlatExpr.{FlatExpr, FlatExpr-F, fold-FlatExpr}
use Rattle.mo_flat.specs.declared.model.FlatVar.{FlatVar}
use Rattle.mo_flat.specs.Roles.{is_unknown, is_given}

abbrev pub still_node : List FlatVar → FlatExpr-F Bool → Bool
still_node vars FlatExpr-F.Time = false
still_node vars (FlatExpr-F.Var variable order) = not (is_unknown vars variable || is_given vars variable)
still_node vars (FlatExpr-F.Der inner) = inner
still_node vars (FlatExpr-F.Sum terms) = list_all (λ term. term.1) terms
still_node vars (FlatExpr-F.Product factors) = list_all (λ factor. factor.1) factors
still_node vars (FlatExpr-F.Power base exponent) = base && exponent
still_node vars (FlatExpr-F.Call function args) = list_all (λ arg. arg) args
still_node vars (FlatExpr-F.Relation op left right) = left && right
still_node vars (FlatExpr-F.Not inner) = inner
still_node vars (FlatExpr-F.All parts) = list_all (λ part. part) parts
still_node vars (FlatExpr-F.Any parts) = list_all (λ part. part) parts
still_node vars (FlatExpr-F.If branches other) = list_all (λ branch. branch.1) branches && other
still_node vars _ = true

-- no unknown, no given variable and not the time stands in the expression
abbrev pub is_still : List FlatVar → FlatExpr → Bool
is_still vars = fold-FlatExpr Bool (still_node vars)

abbrev pub given_node : List FlatVar → FlatExpr-F Bool → Bool
given_node vars (FlatExpr-F.Var variable order) = is_given vars variable
given_node vars (FlatExpr-F.Der inner) = inner
given_node vars (FlatExpr-F.Sum terms) = list_any (λ term. term.1) terms
given_node vars (FlatExpr-F.Product factors) = list_any (λ factor. factor.1) factors
given_node vars (FlatExpr-F.Power base exponent) = base || exponent
given_node vars (FlatExpr-F.Call function args) = list_any (λ arg. arg) args
given_node vars (FlatExpr-F.Relation op left right) = left || right
given_node vars (FlatExpr-F.Not inner) = inner
given_node vars (FlatExpr-F.All parts) = list_any (λ part. part) parts
given_node vars (FlatExpr-F.Any parts) = list_any (λ part. part) parts
given_node vars (FlatExpr-F.If branches other) = list_any (λ branch. branch.1) branches || other
given_node vars _ = false

-- a given variable stands in the expression
abbrev pub has_given : List FlatVar → FlatExpr → Bool
has_given vars = fold-FlatExpr Bool (given_node vars)
