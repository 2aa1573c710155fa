use Rattle.std.proofs.Common.{◌<◌, ◌-◌, length}
use Rattle.mo_graph.specs.steps.Gathering.{IsGathered}
use Rattle.mo_graph.proofs.gather.gather_from.Given as goal

abbrev pub invariant-loop-head : goal.invariant-loop-head
invariant-loop-head l = record {
  gathered : IsGathered (length l.class) l.edges.sources.now l.edges.targets.now l.finished.order.now l.finished.count l.class l.queue l.turn.base l.head l.tail l.turn.number l.turn.place;
  some : l.turn.base < l.tail;
}

abbrev pub decreases-loop-head : goal.decreases-loop-head
decreases-loop-head l = length l.class - l.head
