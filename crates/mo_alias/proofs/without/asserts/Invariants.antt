use Rattle.std.proofs.Common.{◌≡◌, map, take}
use Rattle.mo_alias.specs.steps.Placing.{place_at}
use Rattle.mo_alias.specs.Without.{replaced_assert}
use Rattle.mo_alias.proofs.without.asserts.Given as goal

abbrev pub invariant-loop-a : goal.invariant-loop-a
invariant-loop-a l = l.made ≡ map (replaced_assert (place_at l.places)) (take l.a-index l.asserts)
