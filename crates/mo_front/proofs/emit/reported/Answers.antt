-- By a right report with the offsets that were found.
use Rattle.mo_front.proofs.Emitting.{made_by, reported_by}
use Rattle.mo_front.proofs.emit.reported.Goals as goal

pub report_of-requires-clause-found : goal.report_of-requires-clause-found
report_of-requires-clause-found c = rw c.requires.incidence c.requires.found

pub by_report-requires-clause-made : goal.by_report-requires-clause-made
by_report-requires-clause-made c = made_by _ _ _ _ c.in_ok-report.ensures.offsets c.requires.made

pub returns : goal.returns
returns c = reported_by _ _ _ c.in_ok-report.report _ c.in_ok-report.ensures.right c.in_ok-report.ensures.offsets c.by_report.ensures
