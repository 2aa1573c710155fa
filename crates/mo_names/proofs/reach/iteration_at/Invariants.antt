-- The variable of that name among those that are left is that among all.
use Rattle.std.proofs.Common.{◌≡◌, drop}
use Rattle.mo_scope.specs.Lookup.{iteration}
use Rattle.mo_names.proofs.reach.iteration_at.Given as goal

abbrev pub invariant-loop-variable : goal.invariant-loop-variable
invariant-loop-variable l = iteration (drop l.variable-index l.iterations) l.name ≡ iteration l.iterations l.name
