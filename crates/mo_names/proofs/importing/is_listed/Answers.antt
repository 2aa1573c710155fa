-- One name further.
use Rattle.std.proofs.Common.{true, false}
use Rattle.std.specs.Str.{bytes_eq}
use Rattle.mo_names.proofs.Ends.{any_step}
use Rattle.mo_names.proofs.Reading.{text_test}
use Rattle.mo_names.proofs.importing.is_listed.Goals as goal

pub returns-then-equals : goal.returns-then-equals
returns-then-equals c = any_step (λ other. bytes_eq other c.args.name.now) c.args.names.now c.loop-other.other-index c.other-item.result true _ c.loop-other-test.true c.other-item.is
    (text_test c.other-item.result c.args.name.now true c.if-equals.ensures) c.loop-other.invariant

pub loop-other-preserved : goal.loop-other-preserved
loop-other-preserved c = any_step (λ other. bytes_eq other c.args.name.now) c.args.names.now c.loop-other.other-index c.other-item.result false _ c.loop-other-test.true c.other-item.is
    (text_test c.other-item.result c.args.name.now false c.if-equals.ensures) c.loop-other.invariant
