-- What is written of the model that the texts give.
use Rattle.mo_front.proofs.Answering.{written_given, broken_given, broken_before}
use Rattle.mo_front.proofs.program.written.Goals as goal

pub returns-in-Ok-clause-written : goal.returns-in-Ok-clause-written
returns-in-Ok-clause-written c = written_given _ _ _ _ _ c.in-Ok.ensures.flat c.written_of.ensures.written

pub returns-in-Ok-clause-refused : goal.returns-in-Ok-clause-refused
returns-in-Ok-clause-refused c = broken_given _ _ _ _ _ c.in-Ok.ensures.flat c.written_of.ensures.refused

pub returns-in-Err-clause-refused : goal.returns-in-Err-clause-refused
returns-in-Err-clause-refused c = broken_before _ _ _ c.of_texts.result _ c.in-Err.is c.of_texts.ensures.refused
