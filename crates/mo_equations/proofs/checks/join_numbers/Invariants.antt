-- Those so far.
use Rattle.std.proofs.Common.{All, take}
use Rattle.mo_equations.specs.steps.Checking.{JoinsNumbers}
use Rattle.mo_equations.proofs.checks.join_numbers.Given as goal

abbrev pub invariant-loop-connect : goal.invariant-loop-connect
invariant-loop-connect l = All (JoinsNumbers l.vars) (take l.connect-index l.connects)
