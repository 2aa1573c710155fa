use Rattle.std.proofs.Common.{◌≡◌}
use Rattle.mo_report_lines.specs.steps.Reading.{closed}
use Rattle.mo_report_lines.proofs.name.after_closed.Given as goal

abbrev pub invariant-loop-closed : goal.invariant-loop-closed
invariant-loop-closed l = l.text ≡ closed l._closed l.rest
