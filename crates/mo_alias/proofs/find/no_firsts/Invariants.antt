use Rattle.std.proofs.Common.{◌≡◌, ℕ, None, get_or, length}
use Rattle.mo_alias.proofs.find.no_firsts.Given as goal

abbrev pub invariant-loop-at : goal.invariant-loop-at
invariant-loop-at l = (length l.firsts.items ≡ l._at) × ((r : ℕ) → get_or l.firsts.items r None ≡ None)
