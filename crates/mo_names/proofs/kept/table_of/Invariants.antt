-- The elements that were taken.
use Rattle.std.proofs.Common.{◌≡◌, map, take}
use Rattle.mo_scope.specs.Sights.{member_seen}
use Rattle.mo_names.proofs.kept.table_of.Given as goal

abbrev pub invariant-loop-member : goal.invariant-loop-member
invariant-loop-member l = l.made ≡ map member_seen (take l.member-index l.members)
