-- The verdict by the least offsets.
use Rattle.mo_front.proofs.Structuring.{least_of_found}
use Rattle.mo_front.proofs.Verifying.{judged_by_holds, verdict_refused}
use Rattle.mo_front.proofs.verified.judged.Goals as goal

pub judged_by-requires-clause-least : goal.judged_by-requires-clause-least
judged_by-requires-clause-least c = least_of_found _ _ c.in-Ok.ensures.found

pub returns-in-Ok-clause-judged : goal.returns-in-Ok-clause-judged
returns-in-Ok-clause-judged c =
    judged_by_holds _ c.in-Ok.analysis.found.offsets c.in-Ok.ensures.accepted (least_of_found _ _ c.in-Ok.ensures.found) _ c.judged_by.result c.judged_by.ensures.passed c.judged_by.ensures.says

pub returns-in-Ok-clause-refused : goal.returns-in-Ok-clause-refused
returns-in-Ok-clause-refused c =
    verdict_refused _ c.in-Ok.analysis.found.offsets c.in-Ok.ensures.accepted (least_of_found _ _ c.in-Ok.ensures.found) c.judged_by.result c.judged_by.ensures.refused
