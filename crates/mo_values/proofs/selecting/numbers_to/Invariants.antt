use Rattle.std.proofs.Common.{◌≡◌}
use Rattle.mo_typing.specs.Indices.{numbers_to}
use Rattle.mo_values.proofs.selecting.numbers_to.Given as goal

abbrev pub invariant-loop-k : goal.invariant-loop-k
invariant-loop-k l = l.made ≡ numbers_to l.k
