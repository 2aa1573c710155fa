use Rattle.std.proofs.Common.{◌≤◌, ◌+◌, ◌*◌}
use Rattle.mo_incidence.specs.Signature.{entries}
use Rattle.mo_match.specs.Searching.{IsAssignedTo}
use Rattle.mo_match.proofs.graph.Graph.assign_pairs.Given as goal

abbrev pub invariant-loop-root : goal.invariant-loop-root
invariant-loop-root g l = record {
  assigned : IsAssignedTo l.self l.matching.pairs.items l.matching.owner.items l.search.queue.items l.search.parent.items l.search.mark.items l.base l.root;
  cost : l.steps ≤ l.initial.steps + l.root * entries l.self.signature;
}
