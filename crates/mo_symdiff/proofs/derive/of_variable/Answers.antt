use Rattle.std.proofs.Common.{◌∙◌, ap, not, sym}
use Rattle.mo_flat.specs.declared.expr.FlatExpr.TheVariants.{Var}
use Rattle.mo_symdiff.specs.Still.{is_still}
use Rattle.mo_symdiff.proofs.Derived.{derived_Var, still_Var, unless}
use Rattle.mo_symdiff.proofs.derive.of_variable.Goals as goal

pub returns-clause-tree : goal.returns-clause-tree
returns-clause-tree c =
    let vars = c.args.vars.now in
    let v = c.args.variable in
    c.unless_still.ensures.tree ∙ ap (λ b. unless b (Var v c.saturating_add.result)) (ap not c.moves.ensures ∙ sym (still_Var vars v c.args.order))
    ∙ ap (λ k. unless (is_still vars (Var v c.args.order)) (Var v k)) c.saturating_add.ensures ∙ sym (derived_Var vars v c.args.order)
