use Rattle.mo_alias.proofs.Counting.{gone_end, gone_start}
use Rattle.mo_alias.proofs.places.said_of.Goals as goal

pub loop-g-init : goal.loop-g-init
loop-g-init c = (c.in_ok-said.ensures.size, λ unknown low. gone_start c.args.gone.now _ unknown (c.in_ok-said.ensures.nothing unknown))

pub returns-clause-size : goal.returns-clause-size
returns-clause-size c = c.loop-g.invariant.0

pub returns-clause-said : goal.returns-clause-said
returns-clause-said c = λ unknown low. gone_end c.args.gone.now c.loop-g.g-index c.loop-g-test.false _ unknown (c.loop-g.invariant.1 unknown low)
