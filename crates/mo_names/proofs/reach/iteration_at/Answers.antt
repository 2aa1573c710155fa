-- One variable further.
use Rattle.std.proofs.Common.{true, false}
use Rattle.mo_names.proofs.Reading.{text_test, iteration_here, iteration_further}
use Rattle.mo_names.proofs.reach.iteration_at.Goals as goal

pub returns-then-equals : goal.returns-then-equals
returns-then-equals c = iteration_here c.args.iterations.now c.args.name.now c.loop-variable.variable-index c.variable-item.result _ c.loop-variable-test.true c.variable-item.is c.loop-variable.invariant
    (text_test c.variable-item.result.0 c.args.name.now true c.if-equals.ensures)

pub loop-variable-preserved : goal.loop-variable-preserved
loop-variable-preserved c = iteration_further c.args.iterations.now c.args.name.now c.loop-variable.variable-index c.variable-item.result _ c.loop-variable-test.true c.variable-item.is c.loop-variable.invariant
    (text_test c.variable-item.result.0 c.args.name.now false c.if-equals.ensures)
