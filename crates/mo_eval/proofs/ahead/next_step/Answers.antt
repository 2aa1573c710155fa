use Rattle.mo_eval.proofs.ahead.next_step.Goals as goal

pub returns-in-Some : goal.returns-in-Some
returns-in-Some c = λ frames read are. c.reading.ensures frames read _ are
