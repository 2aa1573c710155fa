-- What was written of a verdict.
use Rattle.mo_front.proofs.Writing.{writes_verdict, writes_verdict_front}
use Rattle.mo_front.proofs.printed.run_verdict.Goals as goal

pub returns-in-Ok-put_all-clause-told : goal.returns-in-Ok-put_all-clause-told
returns-in-Ok-put_all-clause-told g c = λ is_answer.
    writes_verdict (g.S.Shelf.told c.args.shelf.now) _ _ _ _ _ c.in-Ok.answer.0 c.in-Ok.answer.1 _ c.in-Ok.ensures.told c.in-Ok-put_all.ensures.ok c.as_slice.ensures

pub returns-clause-front : goal.returns-clause-front
returns-clause-front g c = λ fault.
    writes_verdict_front (g.S.Shelf.told c.args.shelf.now) _ _ _ _ _ c.in-Ok.answer.0 c.in-Ok.answer.1 _ c.in-Ok.ensures.told c.in-Err-put_all.ensures.fault_front c.as_slice.ensures
