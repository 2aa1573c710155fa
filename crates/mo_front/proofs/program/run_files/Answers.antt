-- What was written of files, with a printed report or without one.
use Rattle.mo_front.proofs.Writing.{front_of_files, text_of_files, verdict_front_of_files, verdict_of_files}
use Rattle.mo_front.proofs.program.run_files.Goals as goal

pub returns-in-Some-clause-told : goal.returns-in-Some-clause-told
returns-in-Some-clause-told g c = λ is_answer.
    verdict_of_files (g.S.Shelf.told c.args.shelf.now) _ c.args.emit _ c.args.verify.now c.in-Some.report _ _ _ _ c.in-Some.is c.as_str.ensures (c.run_verdict.ensures.told is_answer)

pub returns-in-Some-clause-front : goal.returns-in-Some-clause-front
returns-in-Some-clause-front g c = λ fault.
    verdict_front_of_files (g.S.Shelf.told c.args.shelf.now) _ c.args.emit _ c.args.verify.now c.in-Some.report _ _ _ c.in-Some.is c.as_str.ensures (c.run_verdict.ensures.front fault)

pub returns-in-None-clause-told : goal.returns-in-None-clause-told
returns-in-None-clause-told g c = λ is_answer.
    text_of_files (g.S.Shelf.told c.args.shelf.now) _ c.args.emit _ c.args.verify.now _ _ _ c.in-None.is (c.run_job.ensures.told is_answer)

pub returns-in-None-clause-front : goal.returns-in-None-clause-front
returns-in-None-clause-front g c = λ fault.
    front_of_files (g.S.Shelf.told c.args.shelf.now) _ c.args.emit _ c.args.verify.now _ _ c.in-None.is (c.run_job.ensures.front fault)
