use Rattle.std.proofs.Common.{arith}
use Rattle.mo_report_lines.proofs.Numbers.{past}
use Rattle.mo_report_lines.proofs.number.digits_value.Goals as goal

pub returns-then-value-clause-none : goal.returns-then-value-clause-none
returns-then-value-clause-none c = past _ _ _ c.requires c.loop-digit.invariant.value c.loop-digit-test.true (omega arith)

pub returns-then-value-gt-GREATEST-clause-none : goal.returns-then-value-gt-GREATEST-clause-none
returns-then-value-gt-GREATEST-clause-none c = past _ _ _ c.requires c.loop-digit.invariant.value c.loop-digit-test.true (omega arith)
