-- What is said of those that are left is said of all.
use Rattle.std.proofs.Common.{◌≡◌, drop}
use Rattle.mo_instance.specs.steps.Instances.{is_attribute_of}
use Rattle.mo_instance.proofs.attributes.is_among.Given as goal

abbrev pub invariant-loop-attribute : goal.invariant-loop-attribute
invariant-loop-attribute l = is_attribute_of (drop l.attribute-index l.attributes) l.name ≡ is_attribute_of l.attributes l.name
