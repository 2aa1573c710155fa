use Rattle.std.proofs.Common.{◌≡◌, ◌∷◌, ◌++◌, map, take}
use Rattle.mo_values.proofs.selecting.push_behind.Given as goal

abbrev pub invariant-loop-index : goal.invariant-loop-index
invariant-loop-index l = l.made ≡ l.initial.made ++ map (λ index. l.k ∷ index) (take l.index-index l.indices)
