-- What was put is the attributes so far, and their frames exist.
use Rattle.std.proofs.Common.{◌≡◌, flat_map, map, take}
use Rattle.mo_scope.specs.Places.{Every}
use Rattle.mo_scope.specs.Worlds.{frame_at, frames_of, table_in}
use Rattle.mo_instance.specs.Attributes.{chosen_attribute}
use Rattle.mo_scope.specs.Trees.{IsChosen, attribute_in}
use Rattle.mo_instance.proofs.leaf.chosen_attributes.Given as goal

abbrev pub invariant-loop-attribute : goal.invariant-loop-attribute
invariant-loop-attribute l = record {
  are : map (attribute_in (frames_of l.s)) l.made ≡ flat_map (chosen_attribute (table_in l.s) (frame_at l.s l.fn.leaf.0)) (take l.attribute-index l.attributes);
  exist : Every (λ one. IsChosen l.s one.1) l.made;
}
