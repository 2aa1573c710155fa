use Rattle.mo_flat.specs.Text.{equation_line}
use Rattle.mo_text_size.proofs.Lengths.{line_more}
use Rattle.mo_text_size.proofs.model.of_equations.Goals as goal

pub loop-q-preserved : goal.loop-q-preserved
loop-q-preserved c =
    line_more (equation_line c.args.vars.now) c.args.equations.now c.loop-q.q-index c.q-item.result _ _ _ c.loop-q-test.true c.q-item.is c.loop-q.invariant c.of_equation_line.ensures c.saturating_add-all.ensures
