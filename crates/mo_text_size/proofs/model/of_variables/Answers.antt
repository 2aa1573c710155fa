use Rattle.mo_flat.specs.Text.{variable_line}
use Rattle.mo_text_size.proofs.Lengths.{line_more}
use Rattle.mo_text_size.proofs.model.of_variables.Goals as goal

pub loop-v-preserved : goal.loop-v-preserved
loop-v-preserved c =
    line_more (variable_line c.args.vars.now) c.args.vars.now c.loop-v.v-index c.v-item.result _ _ _ c.loop-v-test.true c.v-item.is c.loop-v.invariant c.of_variable_line.ensures c.saturating_add-all.ensures
