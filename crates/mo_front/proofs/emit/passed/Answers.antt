-- One phase after another.
use Rattle.std.proofs.Common.{◌+◌, drop}
use Rattle.std.proofs.lemmas.List.{drop_all, drop_more}
use Rattle.mo_front.proofs.Emitting.{one_passed, one_stopped, all_asked}
use Rattle.mo_front.proofs.emit.passed.Goals as goal

pub loop-phase-preserved : goal.loop-phase-preserved
loop-phase-preserved c = (
  one_passed c.args.m.now c.args.least.now c.args.phases.now (drop c.loop-phase.phase-index c.args.phases.now) (drop (c.loop-phase.phase-index + 1) c.args.phases.now) _
      c.loop-phase.invariant.0 (drop_more c.args.phases.now c.loop-phase.phase-index _ c.loop-phase-test.true) c.in-Ok.ensures.passed,
  c.in-Ok.ensures.made,
)

pub returns-in-Err-clause-refused : goal.returns-in-Err-clause-refused
returns-in-Err-clause-refused c =
    one_stopped c.args.m.now c.args.least.now c.args.phases.now (drop c.loop-phase.phase-index c.args.phases.now) (drop (c.loop-phase.phase-index + 1) c.args.phases.now) _
    c.loop-phase.invariant.0 (drop_more c.args.phases.now c.loop-phase.phase-index _ c.loop-phase-test.true) c.pass.result c.in-Err.stop c.in-Err.is c.pass.ensures.refused

pub returns-clause-passed : goal.returns-clause-passed
returns-clause-passed c =
    all_asked c.args.m.now c.args.least.now c.args.phases.now (drop c.loop-phase.phase-index c.args.phases.now) c.loop-phase.invariant.0
    (drop_all c.loop-phase.phase-index c.args.phases.now c.loop-phase-test.false)
