-- What was made and what is left to be made is all.
use Rattle.std.proofs.Common.{◌≡◌, ◌++◌, length, map, reverse}
use Rattle.mo_scope.specs.Lookup.{not_counted}
use Rattle.mo_scope.specs.Places.{Every}
use Rattle.mo_scope.specs.Worlds.{frame_at, frames_of}
use Rattle.mo_names.specs.steps.Joins.{counts_through, inherited_behind}
use Rattle.mo_names.specs.Sights.{IsInherited, frames_through, inherited_seen}
use Rattle.mo_names.proofs.join.members_behind.Given as goal

abbrev pub invariant-loop-next : goal.invariant-loop-next
invariant-loop-next l = record {
  stand : Every (IsInherited l.s) l.made;
  exist : Every (IsInherited l.s) (reverse l.rest);
  left : map (inherited_seen (frames_of l.s)) l.made ++ not_counted (counts_through (map (frames_through (frames_of l.s)) l.bases)) (map (inherited_behind l.hidden (frame_at l.s l.base.0)) (map (inherited_seen (frames_of l.s)) (reverse l.rest)))
      ≡ not_counted (counts_through (map (frames_through (frames_of l.s)) l.bases)) (map (inherited_behind l.hidden (frame_at l.s l.base.0)) (map (inherited_seen (frames_of l.s)) (reverse l.initial.rest)));
}

abbrev pub decreases-loop-next : goal.decreases-loop-next
decreases-loop-next l = length l.rest
