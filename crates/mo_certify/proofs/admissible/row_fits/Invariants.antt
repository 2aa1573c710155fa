use Rattle.std.proofs.Common.{ℕ, ◌<◌, ◌≤◌, ◌+◌, ◌-◌, slice_index}
use Rattle.mo_incidence.specs.Signature.{unknown_at, order_at}
use Rattle.mo_certify.proofs.admissible.row_fits.Given as goal

abbrev pub invariant-loop-k : goal.invariant-loop-k
invariant-loop-k l = (k : ℕ) → k < l.k → l.offset + order_at l.inc (l.row - 1) k ≤ slice_index l.d (unknown_at l.inc (l.row - 1) k - 1)
