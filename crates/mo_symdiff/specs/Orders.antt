-- The orders and the given variables of an expression without carrying its derivatives out: each derivative around a
-- variable raises its order by one. Conditions of if-expressions are left aside in orders.
use Rattle.std.specs.Prelude.{◌≡◌, ℕ, ◌+◌, Bool, true, false, ◌&&◌, IsTrue, List, Option, not}
use Rattle.std.specs.List.{list_all}
use Rattle.std.specs.Option.{option_map}
use Rattle.mo_flat.specs.declared.expr.FlatExpr.{FlatExpr, FlatExpr-F, fold-FlatExpr}
use Rattle.mo_flat.specs.declared.model.FlatVar.{FlatVar}
use Rattle.mo_flat.specs.Roles.{is_given, is_unknown}
use Rattle.mo_flat.specs.Sound.{orders_fit}
use Rattle.mo_symdiff.specs.Carried.{carried}
use Rattle.mo_symdiff.specs.Derivative.{derived}
use Rattle.mo_symdiff.specs.Sigma.{highest_node, sigma}

abbrev pub raised_node : ℕ → FlatExpr-F (Option ℕ) → Option ℕ
raised_node v (FlatExpr-F.Der inner) = option_map (λ order. order + 1) inner
raised_node v node = highest_node v node

-- the highest order at which a variable, by its number, stands in an expression, each derivative around it counted
abbrev pub raised_order : ℕ → FlatExpr → Option ℕ
raised_order v = fold-FlatExpr (Option ℕ) (raised_node v)

-- whether a part may stand where it is, by whether a derivative is around it, with no condition in between
abbrev pub apart_node : List FlatVar → FlatExpr-F (Bool → Bool) → Bool → Bool
apart_node vars (FlatExpr-F.Var variable order) around = not (around && is_given vars variable)
apart_node vars (FlatExpr-F.Der inner) around = inner true
apart_node vars (FlatExpr-F.Sum terms) around = list_all (λ term. term.1 around) terms
apart_node vars (FlatExpr-F.Product factors) around = list_all (λ factor. factor.1 around) factors
apart_node vars (FlatExpr-F.Power base exponent) around = base around && exponent around
apart_node vars (FlatExpr-F.Call function args) around = list_all (λ arg. arg around) args
apart_node vars (FlatExpr-F.Relation op left right) around = left around && right around
apart_node vars (FlatExpr-F.Not inner) around = inner around
apart_node vars (FlatExpr-F.All parts) around = list_all (λ part. part around) parts
apart_node vars (FlatExpr-F.Any parts) around = list_all (λ part. part around) parts
apart_node vars (FlatExpr-F.If branches other) around =
    list_all (λ branch. branch.0 false && branch.1 around) branches && other around
apart_node vars _ around = true

abbrev pub apart_in : List FlatVar → FlatExpr → Bool → Bool
apart_in vars = fold-FlatExpr (Bool → Bool) (apart_node vars)

-- no given variable stands under a derivative, the conditions between them left aside
abbrev pub is_apart : List FlatVar → FlatExpr → Bool
is_apart vars e = apart_in vars e false

-- it is the number of an unknown among the variables
abbrev pub IsUnknown : List FlatVar → ℕ → Type 0
IsUnknown vars v = IsTrue (is_unknown vars v)

-- no order in it passes the greatest that is written
abbrev pub HasFitOrders : FlatExpr → Type 0
HasFitOrders e = IsTrue (orders_fit 4294967295 e)

-- the variable stands in the derivative exactly where it stands in the expression, at an order one higher
abbrev pub IsRaised : List FlatVar → FlatExpr → ℕ → Type 0
IsRaised vars e v = sigma vars (derived vars (carried vars e)) v ≡ option_map (λ order. order + 1) (sigma vars e v)

-- its highest order, once derivatives are carried out, is that with each derivative around it counted
abbrev pub HasRaisedOrder : List FlatVar → FlatExpr → ℕ → Type 0
HasRaisedOrder vars e v = sigma vars e v ≡ raised_order v e
