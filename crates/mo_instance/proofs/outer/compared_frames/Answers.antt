-- Both are entered, then compared.
use Rattle.std.proofs.Common.{ap, subst, ◌∙◌}
use Rattle.mo_scope.specs.Compatible.{compatible}
use Rattle.mo_scope.specs.Frames.{Frame}
use Rattle.mo_scope.specs.Outcome.{Gives}
use Rattle.mo_scope.specs.Rows.{Table}
use Rattle.mo_scope.specs.Worlds.{frame_at, frames_of, table_in}
use Rattle.mo_names.proofs.Later.{frame_later, grows_trans, table_later}
use Rattle.mo_instance.specs.steps.Outer.{compared_frames}
use Rattle.mo_instance.proofs.Later.{is_child_later}
use Rattle.mo_instance.proofs.Outers.{frame_before, frame_seen}
use Rattle.mo_instance.proofs.outer.compared_frames.Goals as goal

pub enter_child-requires-2-clause-child : goal.enter_child-requires-2-clause-child
enter_child-requires-2-clause-child c = is_child_later c.args.s.now c.enter_child.new.s c.args.inner.1 c.in_ok-wanted.ensures.grows c.requires.inner.1

pub returns-clause-value : goal.returns-clause-value
returns-clause-value c =
    let u = c.args.s.now in
    let v = c.enter_child.new.s in
    let w = c.enter_child-2.new.s in
    let g = c.in_ok-wanted.ensures.grows in
    let h = c.in_ok-new.ensures.grows in
    let T = table_in u in
    let N = frame_seen (frames_of u) c.args.inner.0.now c.args.inner.1 in
    let W = frame_seen (frames_of u) c.args.outer.0.now c.args.outer.1 in
    subst (Gives {T = Unit {0}} {A = Unit {0}} (λ _. tt) c.as_differing.result)
    (ap (λ (t : Table). compared_frames t c.args.place (frame_at w c.in_ok-new.new.0) (frame_at w c.in_ok-wanted.wanted.0)) (table_later u w (grows_trans u v w g h))
    ∙ ap (λ (f : Frame). compared_frames T c.args.place f (frame_at w c.in_ok-wanted.wanted.0)) (c.in_ok-new.ensures.is ∙ frame_before u v c.args.inner.0.now c.args.inner.1 g c.requires.inner.0 c.requires.inner.1)
    ∙ ap (compared_frames T c.args.place N) (frame_later v w c.in_ok-wanted.wanted.0 h c.in_ok-wanted.ensures.exists ∙ c.in_ok-wanted.ensures.is))
    (c.as_differing.ensures (compatible (table_in w) c.args.place (frame_at w c.in_ok-new.new.0) (frame_at w c.in_ok-wanted.wanted.0)) c.compatible-compared.ensures.value)

pub returns-clause-grows : goal.returns-clause-grows
returns-clause-grows c =
    grows_trans c.args.s.now c.enter_child.new.s c.compatible-compared.new.s c.in_ok-wanted.ensures.grows
    (grows_trans c.enter_child.new.s c.enter_child-2.new.s c.compatible-compared.new.s c.in_ok-new.ensures.grows c.compatible-compared.ensures.grows)

pub returns-in_err-new-clause-grows : goal.returns-in_err-new-clause-grows
returns-in_err-new-clause-grows c = grows_trans _ _ _ c.in_ok-wanted.ensures.grows c.in_err-new.ensures.grows
