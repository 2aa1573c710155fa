use Rattle.std.proofs.Common.{◌≡◌, ◌≤◌, ◌+◌, ℕ, None, length, get_or, drop}
use Rattle.mo_alias.specs.steps.Placing.{gone_from}
use Rattle.mo_alias.specs.Without.{gone_at}
use Rattle.mo_alias.proofs.places.said_of.Given as goal

abbrev pub invariant-loop-g : goal.invariant-loop-g
invariant-loop-g l =
    (length l.said.items ≡ l.count + 1)
    × ((unknown : ℕ) → unknown ≤ l.count → gone_from (get_or l.said.items unknown None) (drop l.g-index l.gone) unknown ≡ gone_at l.gone unknown)
