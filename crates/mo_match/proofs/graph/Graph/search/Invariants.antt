use Rattle.std.proofs.Common.{◌≡◌, ◌<◌, ◌≤◌, ◌+◌, ◌-◌, slice_index}
use Rattle.mo_incidence.specs.Counting.{sum_below}
use Rattle.mo_incidence.specs.Signature.{equations, row_len}
use Rattle.mo_match.specs.Trees.{Gains, HasTree, IsClosedTo}
use Rattle.mo_match.proofs.graph.Graph.search.Given as goal

abbrev pub invariant-loop-head : goal.invariant-loop-head
invariant-loop-head g l = record {
  tree : HasTree l.self l.matching.pairs.items l.search l.base l.tail;
  grows : Gains l.fn.search l.search l.base l.tail;
  closed : IsClosedTo l.self l.matching.owner.items l.search l.head;
  first : slice_index l.search.queue.items l.base ≡ l.root;
  within : (l.base ≤ l.head) × (l.head ≤ l.tail) × (l.base < l.tail);
  cost : l.steps ≤ l.initial.steps + sum_below (λ s. row_len l.self.signature (slice_index l.search.queue.items s)) l.head;
}

abbrev pub decreases-loop-head : goal.decreases-loop-head
decreases-loop-head g l = equations l.self.signature - l.head
