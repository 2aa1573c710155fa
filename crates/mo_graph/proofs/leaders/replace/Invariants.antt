use Rattle.std.proofs.Common.{◌≡◌, ◌<◌, ◌≤◌, ℕ, slice_index}
use Rattle.mo_graph.proofs.leaders.replace.Given as goal

abbrev pub invariant-loop-x : goal.invariant-loop-x
invariant-loop-x l = record {
  new : (y : ℕ) → y < l.x → slice_index l.list y ≡ slice_index l.leader (slice_index l.fn.list y);
  old : (y : ℕ) → l.x ≤ y → slice_index l.list y ≡ slice_index l.fn.list y;
}
