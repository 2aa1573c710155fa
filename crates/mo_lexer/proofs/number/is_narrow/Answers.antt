use Rattle.std.proofs.Common.{arith}
use Rattle.mo_lexer.proofs.Narrow.{not_narrow}
use Rattle.mo_lexer.proofs.number.is_narrow.Goals as goal

pub returns-then-value : goal.returns-then-value
returns-then-value c = not_narrow _ _ _ c.requires c.loop-digit.invariant.value c.loop-digit-test.true (omega arith)

pub returns-then-value-gt-WHOLE_MAX : goal.returns-then-value-gt-WHOLE_MAX
returns-then-value-gt-WHOLE_MAX c = not_narrow _ _ _ c.requires c.loop-digit.invariant.value c.loop-digit-test.true (omega arith)
