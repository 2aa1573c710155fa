-- None of those so far divides.
use Rattle.std.proofs.Common.{◌≡◌, false, take}
use Rattle.std.specs.List.{list_any}
use Rattle.mo_sound.proofs.kinds.divides.Given as goal

abbrev pub invariant-loop-factor : goal.invariant-loop-factor
invariant-loop-factor l = list_any (λ factor. factor.0) (take l.factor-index l.factors) ≡ false
