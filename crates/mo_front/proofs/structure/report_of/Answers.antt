use Rattle.mo_front.proofs.Structuring.{right_report}
use Rattle.mo_front.proofs.structure.report_of.Goals as goal

pub returns-clause-right : goal.returns-clause-right
returns-clause-right c = right_report _ _ _ c.requires.incidence c.in_ok-report.ensures.on
