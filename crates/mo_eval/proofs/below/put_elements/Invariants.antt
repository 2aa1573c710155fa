use Rattle.std.proofs.Common.{◌≡◌, ◌++◌, map, take}
use Rattle.mo_eval.proofs.below.put_elements.Given as goal

abbrev pub invariant-loop-index : goal.invariant-loop-index
invariant-loop-index l = l.made ≡ l.initial.made ++ map (λ index. (l.member, index)) (take l.index-index l.indices)
