-- The parts so far.
use Rattle.std.proofs.Common.{◌≡◌, flat_map, map, take}
use Rattle.mo_scope.specs.Held.{number_held}
use Rattle.mo_scope.specs.Rows.{number_by, part_of}
use Rattle.mo_scope.specs.Sights.{part_seen}
use Rattle.mo_scope.proofs.making.item_parts.Given as goal

abbrev pub invariant-loop-item : goal.invariant-loop-item
invariant-loop-item l = map part_seen l.parts ≡ flat_map (part_of (number_by (number_held l.places))) (take l.item-index l.items)
