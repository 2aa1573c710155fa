-- The number of the variable at the path.
use Rattle.std.proofs.Common.{ℕ, ap, ◌∙◌, subst}
use Rattle.mo_flat.specs.declared.expr.FlatExpr.{FlatExpr}
use Rattle.mo_flat.specs.declared.expr.FlatExpr as flat
use Rattle.mo_equations.specs.steps.Flats.{IsFlat}
use Rattle.mo_equations.proofs.Numbered.{numbered}
use Rattle.mo_equations.proofs.standing.variable_at.Goals as goal

pub returns : goal.returns
returns c =
    subst (λ (e : FlatExpr). IsFlat c.of.result e)
    (ap (λ (n : ℕ). flat.Var n 0) (c.in_ok-number.ensures ∙ numbered c.args._s.now c.args.desk.now.leaves c.args.path.now c.requires.leaves))
    c.of.ensures
