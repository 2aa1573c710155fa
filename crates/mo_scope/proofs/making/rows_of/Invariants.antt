-- The rows so far.
use Rattle.std.proofs.Common.{◌≡◌, map, take}
use Rattle.mo_scope.specs.Held.{number_held, group_held, row_with}
use Rattle.mo_scope.specs.steps.Listed.{class_seen}
use Rattle.mo_scope.specs.Sights.{row_seen}
use Rattle.mo_scope.proofs.making.rows_of.Given as goal

abbrev pub invariant-loop-class : goal.invariant-loop-class
invariant-loop-class l = map row_seen l.rows ≡ map (row_with (number_held l.places) (group_held l.groups)) (map class_seen (take l.class-index l.classes))
