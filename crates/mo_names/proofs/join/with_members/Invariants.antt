-- What the elements that are left make of those before is what all make.
use Rattle.std.proofs.Common.{◌≡◌, length, map, reverse}
use Rattle.mo_scope.specs.Lookup.{with_members}
use Rattle.mo_scope.specs.Places.{Every}
use Rattle.mo_scope.specs.Worlds.{frames_of}
use Rattle.mo_names.specs.Sights.{IsInherited, IsWalk, inherited_seen, walk_at}
use Rattle.mo_names.proofs.join.with_members.Given as goal

abbrev pub invariant-loop-next : goal.invariant-loop-next
invariant-loop-next l = record {
  stand : IsWalk l.s l.walk;
  exist : Every (IsInherited l.s) (reverse l.rest);
  left : with_members (map (inherited_seen (frames_of l.s)) (reverse l.rest)) (walk_at l.s l.walk)
      ≡ with_members (map (inherited_seen (frames_of l.s)) (reverse l.initial.rest)) (walk_at l.s l.initial.walk);
}

abbrev pub decreases-loop-next : goal.decreases-loop-next
decreases-loop-next l = length l.rest
