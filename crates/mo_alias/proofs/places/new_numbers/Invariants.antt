use Rattle.std.proofs.Common.{◌≡◌, ◌<◌, ℕ, length, get_or}
use Rattle.mo_alias.specs.steps.Placing.{flag_at}
use Rattle.mo_alias.specs.Without.{kept_to}
use Rattle.mo_alias.proofs.places.new_numbers.Given as goal

abbrev pub invariant-loop-at : goal.invariant-loop-at
invariant-loop-at l =
    (length l.new.items ≡ l.at)
    × (l.count ≡ kept_to (flag_at l.stays) l.at)
    × ((v : ℕ) → v < l.at → get_or l.new.items v 0 ≡ kept_to (flag_at l.stays) v)
