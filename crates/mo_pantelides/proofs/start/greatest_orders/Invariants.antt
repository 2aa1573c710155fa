use Rattle.std.proofs.Common.{ℕ, ◌<◌, ◌≤◌, ◌+◌, ◌-◌, slice_index}
use Rattle.mo_incidence.specs.Counting.{sum_below}
use Rattle.mo_incidence.specs.Signature.{row_len, unknown_at, order_at}
use Rattle.mo_incidence.specs.Offsets.{BoundsOrders}
use Rattle.mo_pantelides.proofs.start.greatest_orders.Given as goal

abbrev pub invariant-loop-row : goal.invariant-loop-row
invariant-loop-row g l = record {
  rows : (i k : ℕ) → i < l.row → k < row_len l.inc i → order_at l.inc i k ≤ slice_index l.d (unknown_at l.inc i k - 1);
  least : (h : ℕ → ℕ) → BoundsOrders l.inc h → (u : ℕ) → u < l.inc.unknowns → slice_index l.d u ≤ h (u + 1);
  cost : l.steps ≤ l.initial.steps + sum_below (row_len l.inc) l.row;
}
