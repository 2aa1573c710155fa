-- An expression with each derivative in it carried out, the innermost first, those in conditions too.
use Rattle.std.specs.Prelude.{Bool, true, ◌&&◌, List, not}
use Rattle.std.specs.List.{list_all}
use Rattle.mo_flat.specs.declared.expr.FlatExpr.{FlatExpr, FlatExpr-F, fold-FlatExpr, para-FlatExpr, roll-FlatExpr}
use Rattle.mo_flat.specs.declared.model.FlatVar.{FlatVar}
use Rattle.mo_symdiff.specs.Derivative.{derived}
use Rattle.mo_symdiff.specs.Still.{has_given}

abbrev pub carry_node : List FlatVar → FlatExpr-F FlatExpr → FlatExpr
carry_node vars (FlatExpr-F.Der inner) = derived vars inner
carry_node vars node = roll-FlatExpr node

abbrev pub carried : List FlatVar → FlatExpr → FlatExpr
carried vars = fold-FlatExpr FlatExpr (carry_node vars)

-- whether the derivatives in each part can be carried out, by the parts and their answers: a derivative of what holds a
-- given variable can not
abbrev pub carries_node : List FlatVar → FlatExpr-F (FlatExpr × Bool) → Bool
carries_node vars (FlatExpr-F.Der inner) = inner.1 && not (has_given vars inner.0)
carries_node vars (FlatExpr-F.Sum terms) = list_all (λ term. term.1.1) terms
carries_node vars (FlatExpr-F.Product factors) = list_all (λ factor. factor.1.1) factors
carries_node vars (FlatExpr-F.Power base exponent) = base.1 && exponent.1
carries_node vars (FlatExpr-F.Call function args) = list_all (λ arg. arg.1) args
carries_node vars (FlatExpr-F.Relation op left right) = left.1 && right.1
carries_node vars (FlatExpr-F.Not inner) = inner.1
carries_node vars (FlatExpr-F.All parts) = list_all (λ part. part.1) parts
carries_node vars (FlatExpr-F.Any parts) = list_all (λ part. part.1) parts
carries_node vars (FlatExpr-F.If branches other) = list_all (λ branch. branch.0.1 && branch.1.1) branches && other.1
carries_node vars _ = true

-- no derivative in the expression, those in conditions included, is one of a given variable
abbrev pub carries : List FlatVar → FlatExpr → Bool
carries vars = para-FlatExpr Bool (carries_node vars)

-- the expression may be differentiated: its derivatives are carried out, and no given variable stands in it
abbrev pub differentiates : List FlatVar → FlatExpr → Bool
differentiates vars e = carries vars e && not (has_given vars e)
