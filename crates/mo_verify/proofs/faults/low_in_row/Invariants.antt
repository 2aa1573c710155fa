use Rattle.std.proofs.Common.{ℕ, ◌+◌, ◌-◌, ◌<◌}
use Rattle.std.specs.Prelude.{slice_index}
use Rattle.mo_incidence.specs.Signature.{unknown_at, order_at}
use Rattle.mo_verify.proofs.faults.low_in_row.Given as goal

abbrev pub invariant-loop-k : goal.invariant-loop-k
invariant-loop-k l = (e : ℕ) → e < l.k → slice_index l.d (unknown_at l.inc (l.row - 1) e - 1) < order_at l.inc (l.row - 1) e + l.c → ⊥
