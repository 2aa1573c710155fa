use Rattle.std.proofs.Common.{◌+◌, length}
use Rattle.mo_report_lines.proofs.Texts.{IsSameTo}
use Rattle.mo_report_lines.proofs.text.first_difference.Given as goal

abbrev pub invariant-lines : goal.invariant-lines
invariant-lines l = IsSameTo l.printed l.wanted l.left l.right l.number

abbrev pub decreases-lines : goal.decreases-lines
decreases-lines l = length l.left + length l.right
