use Rattle.std.proofs.Common.{◌≡◌, ◌-◌, suc, map, take, get_or}
use Rattle.mo_select.proofs.stage.numbers_at.Given as goal

abbrev pub invariant-loop-place : goal.invariant-loop-place
invariant-loop-place l = l.numbers ≡ map (λ x. suc (get_or l.active (x - 1) 0)) (take l.place-index l.places)
