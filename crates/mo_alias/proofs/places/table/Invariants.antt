use Rattle.std.proofs.Common.{◌≡◌, ◌<◌, ℕ, None, length, get_or}
use Rattle.mo_alias.specs.steps.Placing.{place_at, place_by}
use Rattle.mo_alias.proofs.places.table.Given as goal

abbrev pub invariant-loop-at : goal.invariant-loop-at
invariant-loop-at l =
    (length l.made.items ≡ l.at) × (l.variable ≡ l.at)
    × ((v : ℕ) → v < l.at → place_at l.made.items v ≡ place_by l.new l.variables (get_or l.said (get_or l.numbers v 0) None) v)
