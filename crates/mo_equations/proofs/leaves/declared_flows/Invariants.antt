-- The table is one of the paths so far.
use Rattle.std.proofs.Common.{◌≡◌, map, take}
use Rattle.mo_scope.specs.Trees.{instance_in}
use Rattle.mo_scope.specs.Worlds.{frames_of, table_in}
use Rattle.mo_scope.specs.Places.{Every}
use Rattle.mo_equations.specs.Connectors.{is_declared_flow}
use Rattle.mo_equations.specs.steps.LeafTables.{paths_that}
use Rattle.mo_equations.specs.steps.Owners.{IsOwnElements}
use Rattle.mo_equations.specs.steps.Tables.{IsPathTable, paths_seen}
use Rattle.mo_equations.proofs.leaves.declared_flows.Given as goal

abbrev pub invariant-loop-instance : goal.invariant-loop-instance
invariant-loop-instance l = IsPathTable l.made × Every (IsOwnElements l.s) l.levels
    × (paths_seen l.made ≡ paths_that (is_declared_flow (table_in l.s)) (map (instance_in (frames_of l.s)) (take l.instance-index l.instances)))
