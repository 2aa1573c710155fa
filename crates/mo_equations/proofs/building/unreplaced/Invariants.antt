-- So many were made.
use Rattle.std.proofs.Common.{◌≡◌}
use Rattle.mo_equations.specs.steps.Standing.{unasked}
use Rattle.mo_equations.proofs.building.unreplaced.Given as goal

abbrev pub invariant-loop-k : goal.invariant-loop-k
invariant-loop-k l = l.made.items ≡ unasked l._k
