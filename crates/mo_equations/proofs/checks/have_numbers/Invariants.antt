-- Those so far.
use Rattle.std.proofs.Common.{All, take}
use Rattle.mo_equations.specs.steps.Checking.{AreNumbers}
use Rattle.mo_equations.proofs.checks.have_numbers.Given as goal

abbrev pub invariant-loop-leaves : goal.invariant-loop-leaves
invariant-loop-leaves l = All (AreNumbers l.vars) (take l.leaves-index l.elements)
