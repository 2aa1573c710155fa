use Rattle.std.proofs.Common.{length}
use Rattle.mo_report_lines.proofs.Texts.{IsReadTo}
use Rattle.mo_report_lines.proofs.text.first_unreadable.Given as goal

abbrev pub invariant-lines : goal.invariant-lines
invariant-lines l = IsReadTo l.text l.rest l.number

abbrev pub decreases-lines : goal.decreases-lines
decreases-lines l = length l.rest
