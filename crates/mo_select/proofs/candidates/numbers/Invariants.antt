use Rattle.std.proofs.Common.{◌≡◌}
use Rattle.mo_select.specs.Selection.{numbers_to}
use Rattle.mo_select.proofs.candidates.numbers.Given as goal

abbrev pub invariant-loop-before : goal.invariant-loop-before
invariant-loop-before l = l.numbers.items ≡ numbers_to l.before
