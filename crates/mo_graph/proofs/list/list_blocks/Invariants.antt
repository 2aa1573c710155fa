use Rattle.std.proofs.Common.{◌≡◌, ◌<◌, ℕ, [], suc, length, get_or, slice_index}
use Rattle.mo_graph.specs.Order.{numbers_in}
use Rattle.mo_graph.specs.steps.Listing.{members}
use Rattle.mo_graph.proofs.list.list_blocks.Given as goal

abbrev pub invariant-loop-i : goal.invariant-loop-i
invariant-loop-i l = record {
  count : length (numbers_in l.lists.items) ≡ l.count;
  members : (b : ℕ) → b < l.count → get_or (numbers_in l.lists.items) b [] ≡ members (λ i. slice_index l.placed (slice_index l.leader i)) (suc b) l.i;
}
