-- The classes that were put so far.
use Rattle.std.proofs.Common.{◌≡◌, ℕ, List, map, take}
use Rattle.mo_scope.specs.Held.{group_held, path_key, placed_among}
use Rattle.mo_scope.specs.steps.Listed.{class_seen}
use Rattle.mo_scope.specs.Rows.{placed_part}
use Rattle.mo_scope.proofs.groups.groups_of.Given as goal

abbrev pub invariant-loop-class : goal.invariant-loop-class
invariant-loop-class l = (path : List (List ℕ)) → group_held l.groups (path_key path) ≡ map placed_part (placed_among path (map class_seen (take l.class-index l.classes)))
