-- The report, and the line by it.
use Rattle.mo_front.proofs.Laddering.{summed_up}
use Rattle.mo_front.proofs.summary.summary_by.Goals as goal

pub report_of-requires-clause-found : goal.report_of-requires-clause-found
report_of-requires-clause-found c = rw c.requires.incidence c.requires.found

pub returns : goal.returns
returns c = summed_up _ _ _ c.in_ok-report.report _ c.requires.accepted c.in_ok-report.ensures.right c.in_ok-report.ensures.offsets c.requires.passed c.in_ok-text.ensures
