use Rattle.std.proofs.Common.{◌≡◌, ◌<◌, ℕ, length, get_or}
use Rattle.mo_alias.specs.steps.Placing.{flag_at, stays_by}
use Rattle.mo_alias.proofs.places.staying.Given as goal

abbrev pub invariant-loop-at : goal.invariant-loop-at
invariant-loop-at l =
    (length l.stays.items ≡ l.at)
    × ((v : ℕ) → v < l.at → flag_at l.stays.items v ≡ stays_by l.said (get_or l.numbers v 0))
