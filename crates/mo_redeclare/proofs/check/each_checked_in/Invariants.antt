-- What the redeclarations that are left break is what all break.
use Rattle.std.proofs.Common.{◌≡◌, drop, map}
use Rattle.mo_scope.specs.Redeclarations.{each_checked}
use Rattle.mo_scope.specs.Worlds.{Grows, frames_of, member_in, table_in}
use Rattle.mo_redeclare.specs.steps.Sights.{named_seen}
use Rattle.mo_redeclare.specs.steps.Comparing.{found_checked}
use Rattle.mo_redeclare.proofs.check.each_checked_in.Given as goal

abbrev pub invariant-loop-one : goal.invariant-loop-one
invariant-loop-one l = record {
  grows : Grows l.initial.s l.s;
  left : each_checked (found_checked (table_in l.initial.s) (map (member_in (frames_of l.initial.s)) l.members) l.is_leaf) (map (named_seen (frames_of l.initial.s)) (drop l.one-index l.redeclared))
      ≡ each_checked (found_checked (table_in l.initial.s) (map (member_in (frames_of l.initial.s)) l.members) l.is_leaf) (map (named_seen (frames_of l.initial.s)) l.redeclared);
}
