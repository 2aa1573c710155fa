use Rattle.std.proofs.Common.{◌≡◌, ℕ, ◌+◌, Bool, length}
use Rattle.mo_alias.specs.steps.Leasts.{AreRoots, AreSplit}
use Rattle.mo_alias.proofs.find.gone.Given as goal

abbrev pub invariant-loop-at : goal.invariant-loop-at
invariant-loop-at l =
    (length l.firsts.items ≡ l.count + 1)
    × ((root : ℕ → ℕ) (sign : ℕ → Bool) → AreRoots l.trees root sign → AreSplit root sign l.at l.firsts.items l.gone)
