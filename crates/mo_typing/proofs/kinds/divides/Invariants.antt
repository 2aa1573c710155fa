use Rattle.std.proofs.Common.{◌≡◌, false, take}
use Rattle.std.specs.List.{list_any}
use Rattle.mo_typing.proofs.kinds.divides.Given as goal

abbrev pub invariant-loop-factor : goal.invariant-loop-factor
invariant-loop-factor l = list_any (λ t. t.0) (take l.factor-index l.factors) ≡ false
