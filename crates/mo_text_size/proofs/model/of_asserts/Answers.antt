use Rattle.mo_flat.specs.Text.{assert_line}
use Rattle.mo_text_size.proofs.Lengths.{line_more}
use Rattle.mo_text_size.proofs.model.of_asserts.Goals as goal

pub loop-a-preserved : goal.loop-a-preserved
loop-a-preserved c =
    line_more (assert_line c.args.vars.now) c.args.asserts.now c.loop-a.a-index c.a-item.result _ _ _ c.loop-a-test.true c.a-item.is c.loop-a.invariant c.of_assert_line.ensures c.saturating_add-all.ensures
