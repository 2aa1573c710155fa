use Rattle.std.proofs.Common.{◌≡◌, drop, true}
use Rattle.mo_syntax.specs.Outcome.{and_then}
use Rattle.mo_typing.specs.Outcome.{each}
use Rattle.mo_typing.specs.Kinds.{kind_of}
use Rattle.mo_values.proofs.TwoOperands.{all_whole}
use Rattle.mo_values.proofs.operands.are_whole.Given as goal

abbrev pub invariant-loop-operand : goal.invariant-loop-operand
invariant-loop-operand l = and_then (each kind_of (drop l.operand-index l.operands)) (all_whole l.whole) ≡ and_then (each kind_of l.operands) (all_whole true)
