use Rattle.std.proofs.Common.{◌≡◌, ℕ, ◌-◌, ◌<◌}
use Rattle.mo_incidence.specs.Signature.{unknown_at}
use Rattle.mo_verify.proofs.faults.sigma.Given as goal

abbrev pub invariant-loop-k : goal.invariant-loop-k
invariant-loop-k l = (e : ℕ) → e < l.k → unknown_at l.inc (l.row - 1) e ≡ l.unknown → ⊥
