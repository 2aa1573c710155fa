-- The line by the right report.
use Rattle.mo_front.proofs.Laddering.{report_refused}
use Rattle.mo_front.proofs.Structuring.{least_of_found}
use Rattle.mo_front.proofs.summary.summary_of.Goals as goal

pub passed-requires : goal.passed-requires
passed-requires c = least_of_found _ _ c.in-Ok.ensures.found

pub returns-in-Err-passed-clause-refused : goal.returns-in-Err-passed-clause-refused
returns-in-Err-passed-clause-refused c =
    report_refused _ c.in-Ok.analysis.found.offsets c.passed.result _ c.in-Err-passed.is c.in-Ok.ensures.accepted (least_of_found _ _ c.in-Ok.ensures.found) (rw c.phases.ensures at c.passed.ensures.refused)
