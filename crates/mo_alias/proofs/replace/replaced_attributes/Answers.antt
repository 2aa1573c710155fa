use Rattle.std.proofs.Common.{map, refl, ap, ◌∙◌, take_all}
use Rattle.mo_alias.specs.steps.Placing.{place_at}
use Rattle.mo_alias.specs.Without.{replaced_attribute}
use Rattle.mo_alias.proofs.Gathering.{both_made, mapped_more}
use Rattle.mo_alias.proofs.replace.replaced_attributes.Goals as goal

pub loop-attribute-init : goal.loop-attribute-init
loop-attribute-init c = c.new-made.ensures

pub loop-attribute-preserved : goal.loop-attribute-preserved
loop-attribute-preserved c =
    mapped_more (replaced_attribute (place_at c.args.places.now)) c.args.attributes.now c.loop-attribute.attribute-index c.attribute-item.result c.loop-attribute.made c.pushed.new.list c.both.result c.loop-attribute-test.true c.attribute-item.is c.loop-attribute.invariant
    (both_made _ c.replaced.result c.both.result _ _ c.both.ensures.values refl c.replaced.ensures) c.in_ok-pushed.ensures.value

pub returns : goal.returns
returns c = c.loop-attribute.invariant ∙ ap (map (replaced_attribute (place_at c.args.places.now))) (take_all c.loop-attribute.attribute-index c.args.attributes.now c.loop-attribute-test.false)
