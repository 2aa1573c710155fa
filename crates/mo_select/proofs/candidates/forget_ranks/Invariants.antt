use Rattle.std.proofs.Common.{◌≡◌, ◌≢◌, ◌<◌, ◌≤◌, ℕ, length, get_or}
use Rattle.mo_select.proofs.candidates.forget_ranks.Given as goal

abbrev pub invariant-loop-candidate : goal.invariant-loop-candidate
invariant-loop-candidate l = (j : ℕ) → get_or l.rank j 0 ≢ 0 → (t : ℕ) × (l.candidate-index ≤ t) × (t < length l.order) × (get_or l.order t 0 ≡ j)
