use Rattle.std.proofs.Common.{sym, ◌∙◌}
use Rattle.mo_report_lines.proofs.Numbers.{zero_of, some_of}
use Rattle.mo_report_lines.proofs.Texts.{none_read, one_read, unreadable_here, all_readable}
use Rattle.mo_report_lines.proofs.text.first_unreadable.Goals as goal

pub lines-init : goal.lines-init
lines-init c = none_read c.args.text.now

pub lines-preserved : goal.lines-preserved
lines-preserved c =
    let some = some_of _ (sym c.is_empty.ensures ∙ c.lines-test.true) in
    one_read c.args.text.now c.lines.rest.now c.first_line.result.0.now c.first_line.result.1.now c.lines.number c.lines.invariant (c.first_line.ensures.lines some) (c.first_line.ensures.some some)
    (c.is_readable.ensures.yes c.if-not-is_readable.false)

pub returns-then-not-is_readable-clause-some : goal.returns-then-not-is_readable-clause-some
returns-then-not-is_readable-clause-some c =
    let some = some_of _ (sym c.is_empty.ensures ∙ c.lines-test.true) in
    unreadable_here c.args.text.now c.lines.rest.now c.first_line.result.0.now c.first_line.result.1.now c.lines.number c.lines.invariant (c.first_line.ensures.lines some) (c.is_readable.ensures.no c.if-not-is_readable.true)

pub returns-clause-none : goal.returns-clause-none
returns-clause-none c = all_readable c.args.text.now c.lines.rest.now c.lines.number c.lines.invariant (zero_of _ (sym c.is_empty.ensures ∙ c.lines-test.false))
