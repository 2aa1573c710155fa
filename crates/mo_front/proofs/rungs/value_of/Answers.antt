-- One digit more.
use Rattle.std.proofs.Common.{rules, ◌^◌, ◌-◌}
use Rattle.mo_front.proofs.Digits.{value_more}
use Rattle.mo_front.proofs.rungs.value_of.Goals as goal

pub loop-digit-preserved : goal.loop-digit-preserved
loop-digit-preserved c =
    rw (c.saturating_add-value.ensures, c.saturating_mul.ensures, c.from.ensures)
    (value_more (2 ^ 32 - 1) c.loop-digit.value c.args.digits.now c.loop-digit.digit-index 0 (search rules) c.loop-digit.invariant)
