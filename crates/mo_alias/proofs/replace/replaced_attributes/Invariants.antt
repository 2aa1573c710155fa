use Rattle.std.proofs.Common.{◌≡◌, map, take}
use Rattle.mo_alias.specs.steps.Placing.{place_at}
use Rattle.mo_alias.specs.Without.{replaced_attribute}
use Rattle.mo_alias.proofs.replace.replaced_attributes.Given as goal

abbrev pub invariant-loop-attribute : goal.invariant-loop-attribute
invariant-loop-attribute l = l.made ≡ map (replaced_attribute (place_at l.places)) (take l.attribute-index l.attributes)
