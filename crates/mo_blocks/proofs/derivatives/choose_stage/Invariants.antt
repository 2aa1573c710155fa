use Rattle.std.proofs.Common.{◌≡◌, ◌++◌, map, take}
use Rattle.mo_incidence.specs.Offsets.{by_place, by_number}
use Rattle.mo_incidence.specs.Dummies.{dummy}
use Rattle.mo_blocks.proofs.derivatives.choose_stage.Given as goal

abbrev pub invariant-loop-place : goal.invariant-loop-place
invariant-loop-place l = l.chosen.items ≡ l.fn.chosen.items ++ map (dummy (by_number l.d) (by_place l.pairs) l.stage) (take l.place-index l.places)
