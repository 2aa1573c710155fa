use Rattle.std.proofs.Common.{ℕ, ◌<◌, ◌≤◌, ◌+◌, ◌-◌, slice_index}
use Rattle.mo_incidence.specs.Signature.{unknown_at, order_at}
use Rattle.mo_incidence.specs.Offsets.{BoundsOrders}
use Rattle.mo_pantelides.proofs.start.raise_row.Given as goal

abbrev pub invariant-loop-k : goal.invariant-loop-k
invariant-loop-k g l = record {
  row : (k : ℕ) → k < l.k → order_at l.inc l.row k ≤ slice_index l.d (unknown_at l.inc l.row k - 1);
  more : (u : ℕ) → slice_index l.initial.d u ≤ slice_index l.d u;
  least : (h : ℕ → ℕ) → BoundsOrders l.inc h → ((u : ℕ) → u < l.inc.unknowns → slice_index l.initial.d u ≤ h (u + 1)) → (u : ℕ) → u < l.inc.unknowns → slice_index l.d u ≤ h (u + 1);
  cost : l.steps ≤ l.initial.steps + l.k;
}
