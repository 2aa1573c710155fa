use Rattle.std.proofs.Common.{◌≡◌, ℕ, length, get_or}
use Rattle.mo_alias.proofs.trees.alone.Given as goal

abbrev pub invariant-loop-unknown : goal.invariant-loop-unknown
invariant-loop-unknown l = (length l.parent.items ≡ l.unknown) × ((u : ℕ) → get_or l.parent.items u u ≡ u)
