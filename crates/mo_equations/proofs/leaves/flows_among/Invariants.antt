-- Those so far.
use Rattle.std.proofs.Common.{◌≡◌, map, take}
use Rattle.mo_equations.specs.steps.LeafTables.{is_flow_by, leaves_in}
use Rattle.mo_equations.specs.steps.Tables.{paths_seen}
use Rattle.mo_equations.proofs.leaves.flows_among.Given as goal

abbrev pub invariant-loop-instance : goal.invariant-loop-instance
invariant-loop-instance l = l.made ≡ map (is_flow_by (paths_seen l.connectors) (paths_seen l.flows)) (leaves_in (take l.instance-index l.instances))
