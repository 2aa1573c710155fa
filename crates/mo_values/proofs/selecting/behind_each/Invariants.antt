use Rattle.std.proofs.Common.{◌≡◌, ◌∷◌, map, flat_map, take}
use Rattle.mo_values.proofs.selecting.behind_each.Given as goal

abbrev pub invariant-loop-k : goal.invariant-loop-k
invariant-loop-k l = l.made ≡ flat_map (λ k. map (λ index. k ∷ index) l.indices) (take l.k-index l.numbers)
