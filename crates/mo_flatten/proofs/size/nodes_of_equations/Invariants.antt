-- The nodes of those before.
use Rattle.std.proofs.Common.{◌≡◌, ◌^◌, ◌-◌, min, sum_by, take}
use Rattle.mo_equations.specs.Size.{nodes_of_equation}
use Rattle.mo_flatten.proofs.size.nodes_of_equations.Given as goal

abbrev pub invariant-loop-equation : goal.invariant-loop-equation
invariant-loop-equation l = l.all ≡ min (sum_by nodes_of_equation (take l.equation-index l.equations)) (2 ^ 64 - 1)
