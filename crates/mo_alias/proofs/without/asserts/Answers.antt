use Rattle.std.proofs.Common.{map, ap, ◌∙◌, take_all}
use Rattle.mo_alias.specs.steps.Placing.{place_at}
use Rattle.mo_alias.specs.Without.{replaced_assert}
use Rattle.mo_alias.proofs.Gathering.{mapped_more}
use Rattle.mo_alias.proofs.without.asserts.Goals as goal

pub loop-a-init : goal.loop-a-init
loop-a-init c = c.new-made.ensures

pub loop-a-preserved : goal.loop-a-preserved
loop-a-preserved c =
    mapped_more (replaced_assert (place_at c.args.places.now)) c.args.asserts.now c.loop-a.a-index c.a-item.result c.loop-a.made c.pushed.new.list c.replaced_assert.result c.loop-a-test.true c.a-item.is c.loop-a.invariant
    c.replaced_assert.ensures c.in_ok-pushed.ensures.value

pub returns : goal.returns
returns c = c.loop-a.invariant ∙ ap (map (replaced_assert (place_at c.args.places.now))) (take_all c.loop-a.a-index c.args.asserts.now c.loop-a-test.false)
