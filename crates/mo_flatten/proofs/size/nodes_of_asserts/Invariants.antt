-- The nodes of those before.
use Rattle.std.proofs.Common.{◌≡◌, ◌^◌, ◌-◌, min, sum_by, take}
use Rattle.mo_equations.specs.Size.{nodes_of_assert}
use Rattle.mo_flatten.proofs.size.nodes_of_asserts.Given as goal

abbrev pub invariant-loop-assert : goal.invariant-loop-assert
invariant-loop-assert l = l.all ≡ min (sum_by nodes_of_assert (take l.assert-index l.asserts)) (2 ^ 64 - 1)
