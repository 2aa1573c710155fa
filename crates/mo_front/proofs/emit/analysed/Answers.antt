-- What is written by the right report.
use Rattle.mo_front.proofs.Emitting.{by_phases, written_by}
use Rattle.mo_front.proofs.Structuring.{least_of_found}
use Rattle.mo_front.proofs.emit.analysed.Goals as goal

pub passed-requires : goal.passed-requires
passed-requires c = least_of_found _ _ c.in-Ok.ensures.found

pub returns-in_ok-reported-in-Ok-passed-clause-written : goal.returns-in_ok-reported-in-Ok-passed-clause-written
returns-in_ok-reported-in-Ok-passed-clause-written c =
    written_by _ _ c.in-Ok.analysis.found.offsets _ _ c.requires.structure c.requires.report (λ e. absurd (c.requires.whole e)) c.in-Ok.ensures.accepted (rw c.phases.ensures at c.in-Ok-passed.ensures.passed) c.in_ok-reported-in-Ok-passed.ensures

pub returns-in-Err-passed-clause-refused : goal.returns-in-Err-passed-clause-refused
returns-in-Err-passed-clause-refused c =
    by_phases _ _ c.in-Ok.analysis.found.offsets c.passed.result _ c.in-Err-passed.is c.requires.structure c.in-Ok.ensures.accepted (least_of_found _ _ c.in-Ok.ensures.found) (rw c.phases.ensures at c.passed.ensures.refused)
