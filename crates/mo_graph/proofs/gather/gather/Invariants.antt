use Rattle.std.proofs.Common.{◌≤◌, length}
use Rattle.mo_graph.specs.steps.Gathering.{IsGathered}
use Rattle.mo_graph.proofs.gather.gather.Given as goal

abbrev pub invariant-loop-left : goal.invariant-loop-left
invariant-loop-left l = record {
  gathered : IsGathered (length l.class) l.edges.sources.now l.edges.targets.now l.finished.order.now l.finished.count l.class l.queue l.tail l.tail l.tail l.number l.left;
  left : l.left ≤ l.finished.count;
}

abbrev pub decreases-loop-left : goal.decreases-loop-left
decreases-loop-left l = l.left
