-- Whether a frame that is left is among the bases is whether one of all is.
use Rattle.std.proofs.Common.{◌≡◌, drop, map}
use Rattle.std.specs.List.{list_any}
use Rattle.mo_scope.specs.Worlds.{frame_in, frames_of}
use Rattle.mo_names.specs.steps.Joins.{is_among}
use Rattle.mo_names.specs.Sights.{AreThrough, frames_through}
use Rattle.mo_names.proofs.join.is_any_among.Given as goal

abbrev pub invariant-loop-frame : goal.invariant-loop-frame
invariant-loop-frame l = record {
  exist : AreThrough l.s (drop l.frame-index l.frames);
  left : list_any (is_among (map (frames_through (frames_of l.s)) l.bases)) (map (λ frame. frame_in (frames_of l.s) frame.0) (drop l.frame-index l.frames))
      ≡ list_any (is_among (map (frames_through (frames_of l.s)) l.bases)) (map (λ frame. frame_in (frames_of l.s) frame.0) l.frames);
}
