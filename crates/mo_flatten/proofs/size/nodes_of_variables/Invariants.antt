-- The nodes of those before.
use Rattle.std.proofs.Common.{◌≡◌, ◌^◌, ◌-◌, min, sum_by, take}
use Rattle.mo_equations.specs.Size.{nodes_of_variable}
use Rattle.mo_flatten.proofs.size.nodes_of_variables.Given as goal

abbrev pub invariant-loop-v : goal.invariant-loop-v
invariant-loop-v l = l.all ≡ min (sum_by nodes_of_variable (take l.v-index l.vars)) (2 ^ 64 - 1)
