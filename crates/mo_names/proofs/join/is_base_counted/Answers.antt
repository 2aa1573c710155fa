-- The order of frames does not matter.
use Rattle.std.proofs.Common.{arith, length, map, sym, ◌≡◌, ◌∙◌}
use Rattle.std.proofs.lemmas.Bool.Decides.{nat_tests}
use Rattle.mo_syntax.specs.declared.meaning.FrameId.{FrameId}
use Rattle.mo_scope.specs.Worlds.{frame_in, frames_of}
use Rattle.mo_names.specs.steps.Joins.{is_among}
use Rattle.mo_names.specs.Sights.{frames_through}
use Rattle.mo_names.proofs.Joining.{any_turned}
use Rattle.mo_names.proofs.Counting.{none_counted}
use Rattle.mo_names.proofs.join.is_base_counted.Goals as goal

pub returns-then-is_empty : goal.returns-then-is_empty
returns-then-is_empty c =
    let none : length c.args.bases.now ≡ 0 = grind (arith, nat_tests, c.if-is_empty.ensures) in
    none_counted (frames_through (frames_of c.args.s.now)) c.args.bases.now (frames_through (frames_of c.args.s.now) c.args.through.now) none

pub returns : goal.returns
returns c = c.is_any_among.ensures
    ∙ sym (any_turned (is_among (map (frames_through (frames_of c.args.s.now)) c.args.bases.now)) (map (λ (frame : FrameId). frame_in (frames_of c.args.s.now) frame.0) c.args.through.now))
