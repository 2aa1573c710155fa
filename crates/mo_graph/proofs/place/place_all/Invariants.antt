use Rattle.std.proofs.Common.{◌-◌, length}
use Rattle.mo_graph.specs.steps.Placing.{Places, Has}
use Rattle.mo_graph.proofs.place.place_all.Given as goal

abbrev pub invariant-loop-vertex : goal.invariant-loop-vertex
invariant-loop-vertex l = Places (length l.placed) l.edges.sources.now l.edges.targets.now l.leader l.order l.placed l.waits l.count (Has l.ready) 0 0

abbrev pub decreases-loop-vertex : goal.decreases-loop-vertex
decreases-loop-vertex l = length l.placed - l.count
