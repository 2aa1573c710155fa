use Rattle.std.proofs.Common.{arith}
use Rattle.mo_lexer.proofs.Reached.{cut_after_mark}
use Rattle.mo_lexer.proofs.text.after_mark.Goals as goal

pub split_at-requires : goal.split_at-requires
split_at-requires c = rw (← c.as_bytes.ensures.value) (cut_after_mark c.as_bytes.result.now c.as_bytes.ensures.utf8 (omega arith) (omega arith) (omega arith) (omega arith))
