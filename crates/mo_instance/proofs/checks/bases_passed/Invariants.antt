-- What the bases that are left break is what all break.
use Rattle.std.proofs.Common.{◌≡◌, drop, map}
use Rattle.mo_scope.specs.Redeclarations.{each_checked}
use Rattle.mo_scope.specs.Worlds.{Grows, frame_at, frames_of, table_in}
use Rattle.mo_names.specs.Sights.{frames_through}
use Rattle.mo_instance.specs.steps.Checks.{through_passed}
use Rattle.mo_instance.proofs.checks.bases_passed.Given as goal

abbrev pub invariant-loop-through : goal.invariant-loop-through
invariant-loop-through l = record {
  grows : Grows l.initial.s l.s;
  left : each_checked (through_passed (table_in l.initial.s) (frame_at l.initial.s l.frame.0)) (map (frames_through (frames_of l.initial.s)) (drop l.through-index l.bases))
      ≡ each_checked (through_passed (table_in l.initial.s) (frame_at l.initial.s l.frame.0)) (map (frames_through (frames_of l.initial.s)) l.bases);
}
