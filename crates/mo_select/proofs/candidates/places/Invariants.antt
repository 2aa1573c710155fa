use Rattle.std.proofs.Common.{◌≡◌, ℕ}
use Rattle.mo_incidence.specs.Dummies.{differentiated}
use Rattle.mo_select.proofs.candidates.places.Given as goal

abbrev pub invariant-loop-i : goal.invariant-loop-i
invariant-loop-i l = (c : ℕ → ℕ) → l.places.items ≡ differentiated c 0 l.i
