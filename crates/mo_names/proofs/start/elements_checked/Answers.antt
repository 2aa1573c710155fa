-- The first element of a leaf type breaks rule 13.
use Rattle.std.proofs.Common.{ap, sym, map, drop}
use Rattle.std.specs.Prelude.{option_map}
use Rattle.mo_syntax.specs.declared.meaning.FrameId.{FrameId}
use Rattle.mo_scope.specs.Worlds.{frame_in, frames_of}
use Rattle.mo_names.specs.Sights.{inherited_seen, walk_at}
use Rattle.mo_names.proofs.Ends.{leaf_alone, leaf_breaks, first_of_list, none_of_list}
use Rattle.mo_names.proofs.start.elements_checked.Goals as goal

pub returns-in-Some : goal.returns-in-Some
returns-in-Some c = rw c.stop.ensures
    (leaf_breaks (walk_at c.args.s.now c.args.walk.now) (frame_in (frames_of c.args.s.now) c.args._leaf.0) (inherited_seen (frames_of c.args.s.now) c.in-Some.first.now) (map (inherited_seen (frames_of c.args.s.now)) (drop 1 c.args.walk.now.members))
    (ap (option_map (λ (frame : FrameId). frame_in (frames_of c.args.s.now) frame.0)) c.requires)
    (first_of_list (inherited_seen (frames_of c.args.s.now)) c.args.walk.now.members c.in-Some.first.now (sym c.in-Some.ensures)))

pub returns-in-None : goal.returns-in-None
returns-in-None c = leaf_alone (walk_at c.args.s.now c.args.walk.now) (none_of_list (inherited_seen (frames_of c.args.s.now)) c.args.walk.now.members (sym c.in-None.ensures))
