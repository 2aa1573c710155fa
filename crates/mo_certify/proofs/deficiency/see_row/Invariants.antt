use Rattle.std.proofs.Common.{ℕ, ◌<◌, ◌≢◌, ◌-◌, ◌⊎◌, slice_index}
use Rattle.mo_incidence.specs.Signature.{unknown_at}
use Rattle.mo_incidence.specs.Assignment.{Mentions}
use Rattle.mo_certify.proofs.deficiency.see_row.Given as goal

abbrev pub invariant-loop-k : goal.invariant-loop-k
invariant-loop-k l = record {
  row : (k : ℕ) → k < l.k → (slice_index l.listed (unknown_at l.inc (l.row - 1) k) ≢ 0) × (slice_index l.seen (unknown_at l.inc (l.row - 1) k) ≢ 0);
  kept : (j : ℕ) → slice_index l.initial.seen j ≢ 0 → slice_index l.seen j ≢ 0;
  only : (j : ℕ) → slice_index l.seen j ≢ 0 → (slice_index l.initial.seen j ≢ 0) ⊎ Mentions l.inc (l.row - 1) j;
}
