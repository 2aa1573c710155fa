-- The innermost frame of a base is its first.
use Rattle.std.proofs.Common.{ap, sym, ◌∙◌}
use Rattle.mo_scope.specs.Frames.{Frame, is_same_base}
use Rattle.mo_scope.specs.Worlds.{frame_at, frames_of}
use Rattle.mo_names.proofs.Ends.{final_is, some_first}
use Rattle.mo_names.proofs.join.is_base.Goals as goal

pub returns-in-Some : goal.returns-in-Some
returns-in-Some c = c.are_one_base.ensures
    ∙ ap (λ (x : Frame). is_same_base x (frame_at c.args.s.now c.args.frame.0)) (sym (final_is (frames_of c.args.s.now) c.args.base.now c.in-Some.last.now c.in-Some.ensures))

pub returns-in-None : goal.returns-in-None
returns-in-None c = some_first c.args.base.now c.in-None.ensures c.requires.base.some
