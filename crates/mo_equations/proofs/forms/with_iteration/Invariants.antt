-- The variable, and those around it so far.
use Rattle.std.proofs.Common.{◌≡◌, ◌∷◌, take}
use Rattle.mo_equations.proofs.forms.with_iteration.Given as goal

abbrev pub invariant-loop-variable : goal.invariant-loop-variable
invariant-loop-variable l = l.iters ≡ (l.name, l.value) ∷ take l.variable-index l.at.iters
