use Rattle.mo_report_lines.proofs.Texts.{none_same, one_same, differ_here, same_texts, cut_same, lines_apart, lines_same}
use Rattle.mo_report_lines.proofs.text.first_difference.Goals as goal

pub lines-init : goal.lines-init
lines-init c = none_same c.args.printed.now c.args.wanted.now

pub lines-preserved : goal.lines-preserved
lines-preserved c =
    one_same c.args.printed.now c.args.wanted.now c.lines.left.now c.lines.right.now c.first_line.result.0.now c.first_line.result.1.now c.first_line-in-lines.result.1.now c.lines.number c.lines.invariant
    (record { whole = c.first_line.ensures.whole; lines = c.first_line.ensures.lines; some = c.first_line.ensures.some })
    (cut_same c.lines.right.now c.first_line.result.0.now c.first_line-in-lines.result.0.now c.first_line-in-lines.result.1.now (lines_same _ _ _ c.ne.ensures c.if-ne.false) (record { whole = c.first_line-in-lines.ensures.whole; lines = c.first_line-in-lines.ensures.lines; some = c.first_line-in-lines.ensures.some }))
    (c.are_empty.ensures.no c.lines-test.true)

pub returns-then-ne-clause-some : goal.returns-then-ne-clause-some
returns-then-ne-clause-some c =
    differ_here c.args.printed.now c.args.wanted.now c.lines.left.now c.lines.right.now c.first_line.result.0.now c.first_line-in-lines.result.0.now c.first_line.result.1.now c.first_line-in-lines.result.1.now c.lines.number c.lines.invariant
    (record { whole = c.first_line.ensures.whole; lines = c.first_line.ensures.lines; some = c.first_line.ensures.some })
    (record { whole = c.first_line-in-lines.ensures.whole; lines = c.first_line-in-lines.ensures.lines; some = c.first_line-in-lines.ensures.some })
    (lines_apart _ _ _ c.ne.ensures c.if-ne.true)

pub returns-clause-none : goal.returns-clause-none
returns-clause-none c =
    let none = c.are_empty.ensures.yes c.lines-test.false in
    same_texts c.args.printed.now c.args.wanted.now c.lines.left.now c.lines.right.now c.lines.number c.lines.invariant none.0 none.1
