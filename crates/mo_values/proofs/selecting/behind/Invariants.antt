use Rattle.std.proofs.Common.{◌≡◌, ◌∷◌, take}
use Rattle.mo_values.proofs.selecting.behind.Given as goal

abbrev pub invariant-loop-n : goal.invariant-loop-n
invariant-loop-n l = l.made ≡ l.k ∷ take l.n-index l.index
