-- Room for it, its frame, and what is made there.
use Rattle.std.proofs.Common.{subst}
use Rattle.std.proofs.lemmas.Result.{err_from_is_err_and}
use Rattle.mo_syntax.specs.declared.meaning.FrameId.{FrameId}
use Rattle.mo_syntax.specs.declared.place.Place.{Place}
use Rattle.mo_scope.specs.declared.instance.Instance.{Instance as InstanceAt}
use Rattle.mo_scope.specs.Outcome.{Gives}
use Rattle.mo_scope.specs.Trees.{instance_in}
use Rattle.mo_scope.specs.Worlds.{frame_at, frames_of, table_in}
use Rattle.mo_names.specs.declared.walk.Walk.{Walk as WalkAt}
use Rattle.mo_names.specs.Sights.{member_of, walk_seen}
use Rattle.mo_instance.specs.steps.Sights.{around_seen}
use Rattle.mo_instance.specs.steps.Instances.{element_frame}
use Rattle.mo_instance.proofs.Framing.{frame_made, in_its_frame, with_room}
use Rattle.mo_instance.proofs.Lists.{broken_on}
use Rattle.mo_names.proofs.Later.{grows_refl, grows_trans}
use Rattle.mo_instance.proofs.element.element_made.Goals as goal

pub returns-in_err-at-clause-value : goal.returns-in_err-at-clause-value
returns-in_err-at-clause-value c =
    let p = err_from_is_err_and c.from_residual-in_err-at.result c.from_residual-in_err-at.ensures.1 in
    let T = table_in c.args.s.now in
    let A = around_seen c.args.around.now in
    let m = member_of (frames_of c.args.s.now) c.args.member.now in
    let v = c.element_frame.new.s in
    rw (p.1, p.2) (broken_on (λ (at : Place × FrameId). (at.0, frame_at v at.1.0)) (λ (made : InstanceAt × WalkAt). (instance_in (frames_of v) made.0, walk_seen (frames_of v) made.1)) c.in_err-at.field-0.0 (element_frame T m c.args.index.now) (in_its_frame T A m c.args.dims.now) _
    c.in_err-at.ensures.value (with_room T A m c.args.dims.now c.args.index.now c.args.count c.in_ok-room_for_one.ensures))

pub returns-clause-value : goal.returns-clause-value
returns-clause-value c =
    let v = c.element_frame.new.s in
    let w = c.element_in_frame.new.s in
    subst (Gives (λ (made : InstanceAt × WalkAt). (instance_in (frames_of w) made.0, walk_seen (frames_of w) made.1)) c.element_in_frame.result)
    (frame_made c.args.s.now v (around_seen c.args.around.now) c.args.member.now c.args.dims.now c.args.index.now c.args.count c.in_ok-at.at.0 c.in_ok-at.at.1.0
    c.in_ok-at.ensures.grows c.requires c.in_ok-room_for_one.ensures c.in_ok-at.ensures.value)
    c.element_in_frame.ensures.value

pub returns-in_err-room_for_one-clause-grows : goal.returns-in_err-room_for_one-clause-grows
returns-in_err-room_for_one-clause-grows c = grows_refl _

pub returns-clause-grows : goal.returns-clause-grows
returns-clause-grows c = grows_trans _ _ _ c.in_ok-at.ensures.grows c.element_in_frame.ensures.grows
