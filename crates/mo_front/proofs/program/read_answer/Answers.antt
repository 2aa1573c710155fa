-- What is told of files.
use Rattle.std.proofs.Common.{sym, subst, Ok, IfSome}
use Rattle.mo_front.specs.Files.{Reads}
use Rattle.mo_front.specs.Limits.{all_files_limit}
use Rattle.mo_front.proofs.Answering.{told_texts, told_line, alias_never_singular, answers, never_differs, never_singular}
use Rattle.mo_front.proofs.program.read_answer.Goals as goal

pub answer-requires-clause-few : goal.answer-requires-clause-few
answer-requires-clause-few g c = rw (c.as_slice.ensures, c.in-Ok.ensures.count) c.requires.few

pub returns-in-Ok-answer-clause-told : goal.returns-in-Ok-answer-clause-told
returns-in-Ok-answer-clause-told g c =
    told_texts (g.S.Shelf.told c.args.shelf.now) _ _ _ c.as_slice.result.now c.answer.result c.in-Ok-answer.answer c.in-Ok-answer.is
    (subst (λ x. IfSome (g.S.Shelf.told c.args.shelf.now) (λ contents. Reads contents 1 all_files_limit c.args.files.now (Ok x))) (sym c.as_slice.ensures) c.in-Ok.ensures.texts)
    c.answer.ensures.tells

pub returns-in-Ok-answer-clause-answers : goal.returns-in-Ok-answer-clause-answers
returns-in-Ok-answer-clause-answers g c = answers _ _ _ _ _ _ c.in-Ok-answer.ensures.tells

pub returns-in-Ok-answer-clause-flat : goal.returns-in-Ok-answer-clause-flat
returns-in-Ok-answer-clause-flat g c = never_singular _ _ _ _ _ _ c.in-Ok-answer.ensures.tells

pub returns-in-Ok-answer-clause-alias : goal.returns-in-Ok-answer-clause-alias
returns-in-Ok-answer-clause-alias g c = alias_never_singular _ _ _ _ _ _ c.in-Ok-answer.ensures.tells

pub returns-in-Ok-answer-clause-differs : goal.returns-in-Ok-answer-clause-differs
returns-in-Ok-answer-clause-differs g c = never_differs _ _ _ _ _ _ c.in-Ok-answer.ensures.tells

pub returns-in-Err-Refused-clause-told : goal.returns-in-Err-Refused-clause-told
returns-in-Err-Refused-clause-told g c =
    rw c.in-Err-Refused.field-0-is (told_line (g.S.Shelf.told c.args.shelf.now) c.args.class.now.0 c.args.emit c.args.files.now c.in-Err-Refused.line (rw c.in-Err-Refused.field-0-is at c.in-Err-Refused.ensures.refused))
