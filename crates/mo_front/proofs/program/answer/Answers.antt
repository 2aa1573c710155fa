-- What is told of texts.
use Rattle.std.proofs.Common.{◌∙◌}
use Rattle.mo_front.proofs.Answering.{told_written, told_refused}
use Rattle.mo_front.proofs.program.answer.Goals as goal

pub returns-in_ok-bytes_of-in-Ok : goal.returns-in_ok-bytes_of-in-Ok
returns-in_ok-bytes_of-in-Ok c = record { tells = told_written _ _ _ _ _ _ _ c.in_ok-bytes_of-in-Ok.ensures c.in-Ok.ensures.written }

pub returns-in_ok-line_of-in-Err-Broken : goal.returns-in_ok-line_of-in-Err-Broken
returns-in_ok-line_of-in-Err-Broken c =
    record { tells = told_refused _ _ _ _ _ c.from_vec.result (c.from_vec.ensures ∙ c.in_ok-line_of-in-Err-Broken.ensures) (rw c.in-Err-Broken.field-0-is at c.in-Err-Broken.ensures.refused) }
