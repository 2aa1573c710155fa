-- What is told of the bytes of a report.
use Rattle.std.proofs.Common.{◌∙◌}
use Rattle.mo_front.proofs.Verifying.{bytes_judged, bytes_refused}
use Rattle.mo_front.proofs.printed.told_of.Goals as goal

pub returns-in_ok-bytes_of-in-Ok : goal.returns-in_ok-bytes_of-in-Ok
returns-in_ok-bytes_of-in-Ok c = record { tells = bytes_judged _ _ _ _ _ _ _ c.in_ok-bytes_of-in-Ok.ensures c.in-Ok.ensures.judged }

pub returns-in_ok-line_of-in-Err-Broken : goal.returns-in_ok-line_of-in-Err-Broken
returns-in_ok-line_of-in-Err-Broken c =
    record { tells = bytes_refused _ _ _ _ _ c.from_vec.result (c.from_vec.ensures ∙ c.in_ok-line_of-in-Err-Broken.ensures) (rw c.in-Err-Broken.field-0-is at c.in-Err-Broken.ensures.refused) }
