-- The common kind of both, if there is one.
use Rattle.std.proofs.Common.{[], ap}
use Rattle.std.specs.Prelude.{option_map}
use Rattle.mo_flat.specs.Sound.{truth}
use Rattle.mo_sound.proofs.kinds.compared.Goals as goal

pub returns-in-Some : goal.returns-in-Some
returns-in-Some c =
    let sums = c.with-2.ensures _ (c.with.ensures [] c.none.ensures) in
    ap (option_map (λ _. truth)) (rw c.in-Some.is at (c.common.ensures _ sums))

pub returns-in-None : goal.returns-in-None
returns-in-None c =
    let sums = c.with-2.ensures _ (c.with.ensures [] c.none.ensures) in
    ap (option_map (λ _. truth)) (rw c.in-None.is at (c.common.ensures _ sums))
