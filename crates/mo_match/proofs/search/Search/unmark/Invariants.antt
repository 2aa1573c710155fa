use Rattle.std.proofs.Common.{◌≡◌, length}
use Rattle.mo_match.specs.Trees.{IsUnmarkedTo}
use Rattle.mo_match.proofs.search.Search.unmark.Given as goal

abbrev pub invariant-loop-t : goal.invariant-loop-t
invariant-loop-t l = record {
  unmarked : IsUnmarkedTo l.fn.self.queue.items l.fn.self.mark.items l.self.mark.items l.base l.t;
  queue : l.self.queue ≡ l.fn.self.queue;
  parent : l.self.parent ≡ l.fn.self.parent;
  size : length l.self.mark.items ≡ length l.fn.self.mark.items;
}
