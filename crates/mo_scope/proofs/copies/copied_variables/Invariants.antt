-- What was copied is what was taken.
use Rattle.std.proofs.Common.{◌≡◌, take}
use Rattle.mo_scope.proofs.copies.copied_variables.Given as goal

abbrev pub invariant-loop-variable : goal.invariant-loop-variable
invariant-loop-variable l = l.made ≡ take l.variable-index l.variables
