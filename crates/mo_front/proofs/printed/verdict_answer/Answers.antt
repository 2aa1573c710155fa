-- What is told of files and a report.
use Rattle.std.proofs.Common.{sym, subst, Ok, IfSome}
use Rattle.mo_front.specs.Files.{Reads}
use Rattle.mo_front.specs.Limits.{all_files_limit}
use Rattle.mo_front.specs.Verified.{ReadsReport}
use Rattle.mo_front.proofs.Verifying.{told_bytes, told_unread, verdict_answers}
use Rattle.mo_front.proofs.printed.verdict_answer.Goals as goal

pub told_of-requires-clause-few : goal.told_of-requires-clause-few
told_of-requires-clause-few g c = rw (c.as_slice.ensures, c.in-Ok.ensures.count) c.requires.few

pub returns-in-Ok-told_of-clause-told : goal.returns-in-Ok-told_of-clause-told
returns-in-Ok-told_of-clause-told g c =
    told_bytes (g.S.Shelf.told c.args.shelf.now) _ _ c.as_slice.result.now _ c.as_slice-in-Ok.result.now c.told_of.result c.in-Ok-told_of.answer c.in-Ok-told_of.is
    (subst (λ x. IfSome (g.S.Shelf.told c.args.shelf.now) (λ contents. Reads contents 1 all_files_limit c.args.files.now (Ok x))) (sym c.as_slice.ensures) c.in-Ok.ensures.texts)
    (subst (λ x. IfSome (g.S.Shelf.told c.args.shelf.now) (λ contents. ReadsReport contents c.args.report.now x)) (sym c.as_slice-in-Ok.ensures) c.in-Ok.ensures.bytes)
    c.told_of.ensures.tells

pub returns-in-Ok-told_of-clause-answers : goal.returns-in-Ok-told_of-clause-answers
returns-in-Ok-told_of-clause-answers g c = verdict_answers _ _ _ _ _ _ c.in-Ok-told_of.ensures.tells

pub returns-in-Err-Refused-clause-told : goal.returns-in-Err-Refused-clause-told
returns-in-Err-Refused-clause-told g c =
    rw c.in-Err-Refused.field-0-is (told_unread (g.S.Shelf.told c.args.shelf.now) c.args.class.now.0 c.args.files.now c.args.report.now c.in-Err-Refused.line (rw c.in-Err-Refused.field-0-is at c.in-Err-Refused.ensures.refused))
