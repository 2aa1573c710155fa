-- What was made and what is left to be made is all.
use Rattle.std.proofs.Common.{◌≡◌, ◌++◌, drop, map}
use Rattle.mo_scope.specs.Places.{Every}
use Rattle.mo_scope.specs.Worlds.{Grows, frame_at, frames_of}
use Rattle.mo_lookup.specs.steps.Settled.{AreOwned}
use Rattle.mo_names.specs.Sights.{IsBase, frames_through}
use Rattle.mo_names.specs.steps.Twins.{owned_through}
use Rattle.mo_lookup.proofs.owning.bases_owned.Given as goal

abbrev pub invariant-loop-base : goal.invariant-loop-base
invariant-loop-base l = record {
  grows : Grows l.initial.s l.s;
  found : Every (IsBase l.s) l.found;
  left : Every (IsBase l.initial.s) (drop l.base-index l.bases);
  made : AreOwned l.s l.made;
  are : (map (frames_through (frames_of l.s)) l.found ++ map (owned_through (frame_at l.initial.s l.frame.0)) (map (frames_through (frames_of l.initial.s)) (drop l.base-index l.bases)))
      ≡ map (owned_through (frame_at l.initial.s l.frame.0)) (map (frames_through (frames_of l.initial.s)) l.bases);
}
