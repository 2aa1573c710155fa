-- What was found, and what comes of the names behind.
use Rattle.std.proofs.Common.{◌≡◌, map, drop}
use Rattle.mo_scope.specs.Places.{Every}
use Rattle.mo_scope.specs.Worlds.{Grows, frames_of, scope_in, table_in}
use Rattle.mo_names.specs.Sights.{IsMember, member_of}
use Rattle.mo_equations.specs.Ends.{declared_by_name}
use Rattle.mo_equations.proofs.ByName.{Left}
use Rattle.mo_equations.proofs.ends.declared_by_name.Given as goal

abbrev pub invariant-loop-part : goal.invariant-loop-part
invariant-loop-part l = record {
  grows : Grows l.initial.s l.s;
  exist : Every (IsMember l.s) l.made;
  exists : IsMember l.s l.member;
  left : declared_by_name (table_in l.initial.s) (scope_in (frames_of l.initial.s) l.at.frame.0 l.at.iters) l.reference
      ≡ Left (table_in l.initial.s) (map (member_of (frames_of l.s)) l.made) (member_of (frames_of l.s) l.member) (drop l.part-index l.others);
}
