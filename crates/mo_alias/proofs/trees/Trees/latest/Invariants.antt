use Rattle.std.proofs.Common.{◌+◌, ◌-◌}
use Rattle.mo_alias.specs.steps.Forests.{LatestTo, since_in}
use Rattle.mo_alias.proofs.trees.Trees.latest.Given as goal

abbrev pub invariant-loop-a : goal.invariant-loop-a
invariant-loop-a l = LatestTo l.self l.one l.other l.a l.b l.last

abbrev pub decreases-loop-a : goal.decreases-loop-a
decreases-loop-a l = (18446744073709551615 - since_in l.self l.a) + (18446744073709551615 - since_in l.self l.b)
