use Rattle.std.proofs.lemmas.List.{take_rest}
use Rattle.mo_report_lines.proofs.Derivatives.{closed_next, still_open}
use Rattle.mo_report_lines.proofs.name.after_closed.Goals as goal

pub loop-closed-preserved : goal.loop-closed-preserved
loop-closed-preserved c =
    closed_next c.args.text.now c.loop-closed.rest.now _ c.loop-closed._closed c.loop-closed.invariant (c.begins_with.ensures.yes c.if-not-begins_with.false) (take_rest c.loop-closed.rest.now 1)

pub returns-then-not-begins_with-clause-none : goal.returns-then-not-begins_with-clause-none
returns-then-not-begins_with-clause-none c =
    still_open c.args.text.now c.loop-closed.rest.now c.loop-closed._closed c.args.depth c.loop-closed-test.true c.loop-closed.invariant (c.begins_with.ensures.no c.if-not-begins_with.true)
