-- One place more.
use Rattle.std.proofs.Common.{◌+◌, ◌++◌, ◌∷◌, [], ap, ◌∙◌, if◌then◌else◌, arith}
use Rattle.mo_equations.proofs.Tabled.{places_next}
use Rattle.mo_equations.proofs.leaves.places_among.Goals as goal

pub loop-instance-preserved : goal.loop-instance-preserved
loop-instance-preserved c = (
  omega (arith, c.in-Some.ensures, c.loop-instance.invariant.0),
  places_next c.args.instances.now c.loop-instance.instance-index c.instance-item.result c.is_some.result c.loop-instance.made c.put_place.new.made c.loop-instance-test.true c.instance-item.is c.is_some.ensures
      (c.in_ok-put_place.ensures ∙ ap (λ p. if c.is_some.result then c.loop-instance.made ++ p ∷ [] else c.loop-instance.made) c.loop-instance.invariant.0) c.loop-instance.invariant.1,
)
