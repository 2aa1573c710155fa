use Rattle.std.proofs.Common.{◌≡◌, map, take}
use Rattle.mo_alias.specs.steps.Placing.{place_at}
use Rattle.mo_alias.specs.Without.{replaced_equation}
use Rattle.mo_alias.proofs.without.equations.Given as goal

abbrev pub invariant-loop-q : goal.invariant-loop-q
invariant-loop-q l = l.made ≡ map (replaced_equation (place_at l.places)) (take l.q-index l.equations)
