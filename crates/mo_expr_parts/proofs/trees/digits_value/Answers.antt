-- One more digit.
use Rattle.mo_expr_parts.proofs.Values.{next_digit}
use Rattle.mo_expr_parts.proofs.trees.digits_value.Goals as goal

pub loop-digit-preserved : goal.loop-digit-preserved
loop-digit-preserved c = record {
  so_far = next_digit c.args.digits.now _ _ _ _ _ c.loop-digit-test.true c.next_value-value.ensures.is c.loop-digit.invariant.so_far;
  within = c.next_value-value.ensures.within;
}
