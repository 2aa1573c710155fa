use Rattle.std.proofs.Common.{◌≡◌, ◌≤◌, ◌^◌, ◌-◌, min, drop}
use Rattle.mo_grammar.specs.Trees.{digits_after}
use Rattle.mo_expr_parts.proofs.trees.digits_value.Given as goal

abbrev pub invariant-loop-digit : goal.invariant-loop-digit
invariant-loop-digit l = record {
  so_far : min (digits_after l.value (drop l.digit-index l.digits)) (2 ^ 63 - 1) ≡ min (digits_after 0 l.digits) (2 ^ 63 - 1);
  within : l.value ≤ 2 ^ 63 - 1;
}
