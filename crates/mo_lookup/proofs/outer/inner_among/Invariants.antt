-- The first inner one among the elements that are left is that among all.
use Rattle.std.proofs.Common.{◌≡◌, drop, map}
use Rattle.mo_scope.specs.Places.{Every}
use Rattle.mo_scope.specs.Worlds.{frames_of}
use Rattle.mo_scope.specs.Sights.{member_at}
use Rattle.mo_names.specs.Children.{first_inner}
use Rattle.mo_names.specs.Sights.{IsInherited, inherited_seen}
use Rattle.mo_lookup.proofs.outer.inner_among.Given as goal

abbrev pub invariant-loop-inherited : goal.invariant-loop-inherited
invariant-loop-inherited l = record {
  left : first_inner (member_at l.s l.outer) (map (inherited_seen (frames_of l.s)) (drop l.inherited-index l.members))
      ≡ first_inner (member_at l.s l.outer) (map (inherited_seen (frames_of l.s)) l.members);
  exist : Every (IsInherited l.s) (drop l.inherited-index l.members);
}
