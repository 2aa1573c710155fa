-- The indices of the steps so far.
use Rattle.std.proofs.Common.{◌≡◌, take}
use Rattle.mo_equations.specs.Variables.{indices_of}
use Rattle.mo_equations.proofs.variables.indices_of.Given as goal

abbrev pub invariant-loop-step : goal.invariant-loop-step
invariant-loop-step l = l.indices ≡ indices_of (take l.step-index l.path)
