-- What was written of a ladder.
use Rattle.mo_front.proofs.Laddering.{ladder_never_differs, ladder_status}
use Rattle.mo_front.proofs.Writing.{ladder_writes, ladder_writes_front}
use Rattle.mo_front.proofs.program.run_ladder.Goals as goal

pub returns-in-Ok-put_all-clause-told : goal.returns-in-Ok-put_all-clause-told
returns-in-Ok-put_all-clause-told g c = λ is_answer.
    ladder_writes c.args.n _ _ c.in-Ok.answer.0 c.in-Ok.answer.1 _ c.in-Ok.ensures.tells c.in-Ok-put_all.ensures.ok c.as_slice.ensures

pub returns-clause-front : goal.returns-clause-front
returns-clause-front g c = λ fault.
    ladder_writes_front c.args.n _ _ c.in-Ok.answer.0 c.in-Ok.answer.1 _ c.in-Ok.ensures.tells c.in-Err-put_all.ensures.fault_front c.as_slice.ensures

pub returns-in-Ok-put_all-clause-singular : goal.returns-in-Ok-put_all-clause-singular
returns-in-Ok-put_all-clause-singular g c = (ladder_status _ _ _ c.in-Ok.ensures.tells).1

pub returns-in-Ok-put_all-clause-differs : goal.returns-in-Ok-put_all-clause-differs
returns-in-Ok-put_all-clause-differs g c = ladder_never_differs _ _ _ c.in-Ok.ensures.tells
