use Rattle.mo_front.proofs.Structuring.{underdetermined_report_holds}
use Rattle.mo_front.proofs.structure.underdetermined_report.Goals as goal

pub returns-clause-on : goal.returns-clause-on
returns-clause-on c =
    underdetermined_report_holds _ _ c.in_ok-report.report _ c.in_ok-report-2.field-0 _ c.in_ok-report.ensures c.requires.fewer c.requires.least
    c.in_ok-report-2.ensures c.requires.loose
