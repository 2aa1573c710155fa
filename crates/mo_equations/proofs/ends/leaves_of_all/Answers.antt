-- An element more.
use Rattle.mo_names.specs.Sights.{IsMember}
use Rattle.mo_equations.proofs.Lists.{every_at}
use Rattle.mo_equations.proofs.ends.leaves_of_all.Goals as goal

pub leaves_of-requires-clause-member : goal.leaves_of-requires-clause-member
leaves_of-requires-clause-member c =
    every_at (λ element. IsMember c.args.s.now element.0) c.args.elements.now c.loop-element.element-index c.element-item.result c.requires.members c.loop-element-test.true c.element-item.is
