-- The verdict by the model that the texts give.
use Rattle.mo_front.proofs.Answering.{broken_before, broken_given}
use Rattle.mo_front.proofs.Verifying.{judges_given}
use Rattle.mo_front.proofs.printed.verdict_given.Goals as goal

pub returns-in-Ok-clause-judged : goal.returns-in-Ok-clause-judged
returns-in-Ok-clause-judged c = judges_given _ _ _ _ _ c.in-Ok.ensures.flat c.judged.ensures.judged

pub returns-in-Ok-clause-refused : goal.returns-in-Ok-clause-refused
returns-in-Ok-clause-refused c = broken_given _ _ _ _ _ c.in-Ok.ensures.flat c.judged.ensures.refused

pub returns-in-Err-clause-refused : goal.returns-in-Err-clause-refused
returns-in-Err-clause-refused c = broken_before _ _ _ c.of_texts.result _ c.in-Err.is c.of_texts.ensures.refused
