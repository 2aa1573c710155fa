use Rattle.std.proofs.Common.{◌+◌, ◌≤◌, length}
use Rattle.mo_report_lines.proofs.Derivatives.{IsOpened}
use Rattle.mo_report_lines.proofs.name.opened.Given as goal

abbrev pub invariant-opened : goal.invariant-opened
invariant-opened l = record {
  opened : IsOpened l.text l.rest l.depth;
  small : l.depth + length l.rest ≤ length l.text;
}

abbrev pub decreases-opened : goal.decreases-opened
decreases-opened l = length l.rest
