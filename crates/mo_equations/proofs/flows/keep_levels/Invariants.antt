-- The levels that are left are as those before.
use Rattle.std.proofs.Common.{length}
use Rattle.mo_scope.specs.Places.{Every}
use Rattle.mo_equations.specs.steps.Owners.{IsOwnElements}
use Rattle.mo_equations.proofs.flows.keep_levels.Given as goal

abbrev pub decreases-loop-levels : goal.decreases-loop-levels
decreases-loop-levels l = length l.levels

abbrev pub invariant-loop-levels : goal.invariant-loop-levels
invariant-loop-levels l = Every (IsOwnElements l.s) l.levels
