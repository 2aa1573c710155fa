-- The first inner one among the elements that are left is that among all.
use Rattle.std.proofs.Common.{◌≡◌, drop, find, map}
use Rattle.mo_scope.specs.Names.{is_inner_for}
use Rattle.mo_scope.specs.Places.{Every}
use Rattle.mo_scope.specs.Sights.{member_at}
use Rattle.mo_names.specs.Sights.{IsMember}
use Rattle.mo_lookup.proofs.outer.inner_of_all.Given as goal

abbrev pub invariant-loop-member : goal.invariant-loop-member
invariant-loop-member l = record {
  left : find (is_inner_for (member_at l.s l.outer)) (map (member_at l.s) (drop l.member-index l.members))
      ≡ find (is_inner_for (member_at l.s l.outer)) (map (member_at l.s) l.members);
  exist : Every (IsMember l.s) (drop l.member-index l.members);
}
