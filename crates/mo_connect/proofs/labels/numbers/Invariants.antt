use Rattle.std.proofs.Common.{◌≡◌, ℕ, ◌<◌, length, get_or}
use Rattle.mo_connect.proofs.labels.numbers.Given as goal

abbrev pub invariant-loop-i : goal.invariant-loop-i
invariant-loop-i l = (length l.made.items ≡ l.i) × ((j : ℕ) → j < l.i → get_or l.made.items j 0 ≡ j)
