use Rattle.std.proofs.Common.{◌≡◌, ℕ, None, length, get_or}
use Rattle.mo_alias.proofs.places.nothing_said.Given as goal

abbrev pub invariant-loop-at : goal.invariant-loop-at
invariant-loop-at l = (length l.said.items ≡ l.at) × ((unknown : ℕ) → get_or l.said.items unknown None ≡ None)
