-- The paths so far.
use Rattle.std.proofs.Common.{◌≡◌, map, take}
use Rattle.mo_equations.specs.steps.Tables.{IsPathTable, paths_seen}
use Rattle.mo_equations.proofs.leaves.paths_of_all.Given as goal

abbrev pub invariant-loop-instance : goal.invariant-loop-instance
invariant-loop-instance l = IsPathTable l.made × (paths_seen l.made ≡ map (λ instance. instance.path.0) (take l.instance-index l.instances))
