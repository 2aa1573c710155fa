-- What was made and what is left to be made is all.
use Rattle.std.proofs.Common.{◌≡◌, ◌++◌, drop, map}
use Rattle.mo_scope.specs.Places.{Every}
use Rattle.mo_scope.specs.Worlds.{Grows, frame_at, frames_of}
use Rattle.mo_lookup.specs.steps.Settled.{AreOwned}
use Rattle.mo_names.specs.Sights.{IsInherited, inherited_seen}
use Rattle.mo_names.specs.steps.Twins.{owned_inherited}
use Rattle.mo_lookup.proofs.owning.members_owned.Given as goal

abbrev pub invariant-loop-held : goal.invariant-loop-held
invariant-loop-held l = record {
  grows : Grows l.initial.s l.s;
  found : Every (IsInherited l.s) l.found;
  left : Every (IsInherited l.initial.s) (drop l.held-index l.members);
  made : AreOwned l.s l.made;
  are : (map (inherited_seen (frames_of l.s)) l.found ++ map (owned_inherited (frame_at l.initial.s l.frame.0)) (map (inherited_seen (frames_of l.initial.s)) (drop l.held-index l.members)))
      ≡ map (owned_inherited (frame_at l.initial.s l.frame.0)) (map (inherited_seen (frames_of l.initial.s)) l.members);
}
