use Rattle.mo_front.proofs.Structuring.{singular_report_holds}
use Rattle.mo_front.proofs.structure.singular_report.Goals as goal

pub returns-clause-on : goal.returns-clause-on
returns-clause-on c = singular_report_holds _ _ c.in_ok-report.report _ c.in_ok-report.ensures c.requires

pub returns-clause-offsets : goal.returns-clause-offsets
returns-clause-offsets c = c.in_ok-report.ensures.offsets
