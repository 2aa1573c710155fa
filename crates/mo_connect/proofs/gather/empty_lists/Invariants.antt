use Rattle.std.proofs.Common.{◌≡◌, ℕ, [], length, get_or}
use Rattle.mo_connect.proofs.gather.empty_lists.Given as goal

abbrev pub invariant-loop-i : goal.invariant-loop-i
invariant-loop-i l = (length l.made.items ≡ l._i) × ((r : ℕ) → get_or l.made.items r [] ≡ [])
