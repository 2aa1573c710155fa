use Rattle.std.proofs.Common.{◌≡◌, map, take}
use Rattle.mo_select.proofs.choose.unknowns_of.Given as goal

abbrev pub invariant-loop-pair : goal.invariant-loop-pair
invariant-loop-pair l = l.unknowns.items ≡ map (λ x. x.0) (take l.pair-index l.chosen)
