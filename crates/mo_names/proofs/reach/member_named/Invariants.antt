-- The first of that name among the elements that are left is that among all.
use Rattle.std.proofs.Common.{◌≡◌, drop, map}
use Rattle.mo_scope.specs.Lookup.{named}
use Rattle.mo_scope.specs.Places.{Every}
use Rattle.mo_scope.specs.Worlds.{frames_of}
use Rattle.mo_names.specs.Sights.{IsInherited, inherited_seen}
use Rattle.mo_names.proofs.reach.member_named.Given as goal

abbrev pub invariant-loop-inherited : goal.invariant-loop-inherited
invariant-loop-inherited l = record {
  left : named l.name (map (λ inherited. inherited.member) (map (inherited_seen (frames_of l.s)) (drop l.inherited-index l.members)))
      ≡ named l.name (map (λ inherited. inherited.member) (map (inherited_seen (frames_of l.s)) l.members));
  exist : Every (IsInherited l.s) (drop l.inherited-index l.members);
}
