use Rattle.std.proofs.Common.{◌≡◌, ℕ, [], length, get_or}
use Rattle.mo_graph.specs.Order.{numbers_in}
use Rattle.mo_graph.proofs.list.empty_lists.Given as goal

abbrev pub invariant-loop-b : goal.invariant-loop-b
invariant-loop-b l = record {
  count : length (numbers_in l.lists.items) ≡ l._b;
  empty : (b : ℕ) → get_or (numbers_in l.lists.items) b [] ≡ [];
}
