use Rattle.std.proofs.Common.{◌≤◌, ◌+◌, slice_index}
use Rattle.mo_match.specs.Searching.{IsSearched}
use Rattle.mo_match.specs.Trees.{Gains, HasTree}
use Rattle.mo_match.proofs.graph.Graph.scan_row.Given as goal

abbrev pub invariant-loop-k : goal.invariant-loop-k
invariant-loop-k g l = record {
  tree : HasTree l.self l.matching.pairs.items l.search l.base l.tail;
  grows : Gains l.fn.search l.search l.end l.tail;
  searched : IsSearched l.self l.matching.owner.items l.search.mark.items (slice_index l.fn.search.queue.items l.head) l.k;
  cost : l.steps ≤ l.initial.steps + l.k;
}
