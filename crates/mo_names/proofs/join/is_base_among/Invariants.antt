-- Whether the frame is the innermost one of a base that is left is whether it is that of one of all.
use Rattle.std.proofs.Common.{◌≡◌, drop, map}
use Rattle.mo_scope.specs.Places.{Every}
use Rattle.mo_scope.specs.Worlds.{frame_at, frames_of}
use Rattle.mo_names.specs.steps.Joins.{is_among}
use Rattle.mo_names.specs.Sights.{IsBase, frames_through}
use Rattle.mo_names.proofs.join.is_base_among.Given as goal

abbrev pub invariant-loop-base : goal.invariant-loop-base
invariant-loop-base l = record {
  exist : Every (IsBase l.s) (drop l.base-index l.bases);
  left : is_among (map (frames_through (frames_of l.s)) (drop l.base-index l.bases)) (frame_at l.s l.frame.0) ≡ is_among (map (frames_through (frames_of l.s)) l.bases) (frame_at l.s l.frame.0);
}
