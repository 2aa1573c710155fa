use Rattle.std.proofs.Common.{◌≡◌, ◌≢◌, ◌<◌, ◌≤◌, ◌-◌, ℕ, length, slice_index}
use Rattle.mo_graph.specs.steps.Gathering.{IsGathered}
use Rattle.mo_graph.proofs.gather.gather_row.Given as goal

abbrev pub invariant-loop-cursor : goal.invariant-loop-cursor
invariant-loop-cursor l = record {
  gathered : IsGathered (length l.class) l.edges.sources.now l.edges.targets.now l._finished.order.now l._finished.count l.class l.queue l.turn.base l.head l.tail l.turn.number l.turn.place;
  head : slice_index l.queue l.head ≡ slice_index l.fn.queue l.head;
  more : l.end ≤ l.tail;
  cursor : (l.cursor ≤ length l.edges.targets.now);
  key : (0 < l.cursor → slice_index l.edges.targets.now (l.cursor - 1) ≡ slice_index l.fn.queue l.head);
  seen : (y : ℕ) → y < length l.edges.targets.now → slice_index l.edges.targets.now y ≡ slice_index l.fn.queue l.head → l.cursor ≤ y → slice_index l.class (slice_index l.edges.sources.now y) ≢ 0;
}

abbrev pub decreases-loop-cursor : goal.decreases-loop-cursor
decreases-loop-cursor l = l.cursor
