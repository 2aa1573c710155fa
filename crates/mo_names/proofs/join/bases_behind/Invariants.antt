-- What was made and what is left to be made is all.
use Rattle.std.proofs.Common.{◌≡◌, ◌++◌, length, map, reverse}
use Rattle.mo_scope.specs.Lookup.{is_counted, not_counted}
use Rattle.mo_scope.specs.Places.{Every}
use Rattle.mo_scope.specs.Worlds.{frame_at, frames_of}
use Rattle.mo_names.specs.steps.Joins.{base_behind}
use Rattle.mo_names.specs.Sights.{AreThrough, IsBase, frames_through}
use Rattle.mo_names.proofs.join.bases_behind.Given as goal

abbrev pub invariant-loop-through : goal.invariant-loop-through
invariant-loop-through l = record {
  stand : Every (IsBase l.s) l.made;
  exist : Every (AreThrough l.s) (reverse l.rest);
  left : map (frames_through (frames_of l.s)) l.made ++ not_counted (is_counted (map (frames_through (frames_of l.s)) l.bases)) (map (base_behind (frame_at l.s l.base.0)) (map (frames_through (frames_of l.s)) (reverse l.rest)))
      ≡ not_counted (is_counted (map (frames_through (frames_of l.s)) l.bases)) (map (base_behind (frame_at l.s l.base.0)) (map (frames_through (frames_of l.s)) (reverse l.initial.rest)));
}

abbrev pub decreases-loop-through : goal.decreases-loop-through
decreases-loop-through l = length l.rest
