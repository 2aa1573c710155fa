use Rattle.std.proofs.Common.{◌≡◌, ◌<◌, ◌≤◌, ◌-◌, length, slice_index}
use Rattle.mo_graph.specs.steps.Placing.{Places, Has}
use Rattle.mo_graph.proofs.place.wake.Given as goal

abbrev pub invariant-loop-cursor : goal.invariant-loop-cursor
invariant-loop-cursor l = record {
  places : Places (length l.waits) l.edges.sources.now l.edges.targets.now l._placing.leader.now l._placing.order.now l._placing.placed.now l.waits l._placing.count (Has l.ready) l.awake l.cursor;
  cursor : (l.cursor ≤ length l.edges.targets.now);
  key : (0 < l.cursor → slice_index l.edges.targets.now (l.cursor - 1) ≡ l.awake);
}

abbrev pub decreases-loop-cursor : goal.decreases-loop-cursor
decreases-loop-cursor l = l.cursor
