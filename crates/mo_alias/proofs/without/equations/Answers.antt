use Rattle.std.proofs.Common.{map, ap, ◌∙◌, take_all}
use Rattle.mo_alias.specs.steps.Placing.{place_at}
use Rattle.mo_alias.specs.Without.{replaced_equation}
use Rattle.mo_alias.proofs.Gathering.{mapped_more}
use Rattle.mo_alias.proofs.without.equations.Goals as goal

pub loop-q-init : goal.loop-q-init
loop-q-init c = c.new-made.ensures

pub loop-q-preserved : goal.loop-q-preserved
loop-q-preserved c =
    mapped_more (replaced_equation (place_at c.args.places.now)) c.args.equations.now c.loop-q.q-index c.q-item.result c.loop-q.made c.pushed.new.list c.replaced_equation.result c.loop-q-test.true c.q-item.is c.loop-q.invariant
    c.replaced_equation.ensures c.in_ok-pushed.ensures.value

pub returns : goal.returns
returns c = c.loop-q.invariant ∙ ap (map (replaced_equation (place_at c.args.places.now))) (take_all c.loop-q.q-index c.args.equations.now c.loop-q-test.false)
