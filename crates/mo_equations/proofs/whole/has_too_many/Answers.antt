-- What is counted is past the limits.
use Rattle.std.proofs.Common.{◌∙◌, sym}
use Rattle.mo_equations.proofs.Oversize.{past_is}
use Rattle.mo_equations.proofs.whole.has_too_many.Goals as goal

pub returns : goal.returns
returns c = λ all of e declared are is.
    c.is_over.ensures
    ∙ sym (past_is c.args.declared.now c.args.parts.now all of e declared are is c.saturating_add.result c.saturating_add-2.result c.saturating_add-nodes.result c.saturating_add-equations.result
    c.saturating_add.ensures c.saturating_add-2.ensures c.saturating_add-nodes.ensures c.saturating_add-equations.ensures)
