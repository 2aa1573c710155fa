-- The value of the digits before.
use Rattle.std.proofs.Common.{◌≡◌, ◌^◌, ◌-◌, min, take}
use Rattle.mo_grammar.specs.Trees.{digits_after}
use Rattle.mo_front.proofs.rungs.value_of.Given as goal

abbrev pub invariant-loop-digit : goal.invariant-loop-digit
invariant-loop-digit l = l.value ≡ min (digits_after 0 (take l.digit-index l.digits)) (2 ^ 32 - 1)
