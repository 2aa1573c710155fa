-- The checks of the frame, then the instance.
use Rattle.std.proofs.Common.{Err, ap, sym, ◌∙◌}
use Rattle.std.proofs.lemmas.Result.{err_from_is_err_and}
use Rattle.mo_scope.specs.declared.instance.Instance.{Instance as InstanceAt}
use Rattle.mo_scope.specs.Instances.{Instance}
use Rattle.mo_scope.specs.Trees.{instance_in}
use Rattle.mo_scope.specs.Worlds.{frame_at, frames_of, table_in}
use Rattle.mo_names.specs.declared.walk.Walk.{Walk as WalkAt}
use Rattle.mo_names.specs.Sights.{member_of, walk_seen}
use Rattle.mo_instance.specs.steps.Sights.{around_seen}
use Rattle.mo_instance.specs.steps.Instances.{instance_at}
use Rattle.mo_instance.proofs.Framing.{in_frame, instance_before, with_walk}
use Rattle.mo_instance.proofs.Lists.{broken_on, gives_as}
use Rattle.mo_syntax.specs.Outcome.{Outcome, and_then}
use Rattle.mo_instance.proofs.element.element_in_frame.Goals as goal

pub returns-in_err-instance-clause-value : goal.returns-in_err-instance-clause-value
returns-in_err-instance-clause-value c =
    let p = err_from_is_err_and c.from_residual-in_err-instance.result c.from_residual-in_err-instance.ensures.1 in
    let u = c.args.s.now in
    let v = c.type_checked.new.s in
    let T = table_in u in
    let A = around_seen c.args.around.now in
    let m = member_of (frames_of u) c.args.member.now in
    let f = frame_at u c.args.frame.0 in
    let walked = walk_seen (frames_of v) c.in_ok-walk.walk in
    rw (p.1, p.2) (broken_on (instance_in (frames_of v)) (λ (made : InstanceAt × WalkAt). (instance_in (frames_of v) made.0, walk_seen (frames_of v) made.1)) c.in_err-instance.field-0.0
    (instance_at T A m c.args.dims.now f walked) (with_walk T A m c.args.dims.now walked) _
    (gives_as (instance_in (frames_of v)) (Err c.in_err-instance.field-0.0) _ _
    (instance_before u v A c.args.member.now c.args.dims.now c.args.frame.0 walked c.in_ok-walk.ensures.grows c.requires.member c.requires.frame)
    c.in_err-instance.ensures.value)
    (in_frame T A m c.args.dims.now c.args.place f walked c.in_ok-walk.ensures.value))

pub returns-clause-value : goal.returns-clause-value
returns-clause-value c =
    let u = c.args.s.now in
    let v = c.type_checked.new.s in
    let T = table_in u in
    let A = around_seen c.args.around.now in
    let m = member_of (frames_of u) c.args.member.now in
    let f = frame_at u c.args.frame.0 in
    let walked = walk_seen (frames_of v) c.in_ok-walk.walk in
    sym (in_frame T A m c.args.dims.now c.args.place f walked c.in_ok-walk.ensures.value)
    ∙ ap (λ (o : Outcome Instance). and_then o (with_walk T A m c.args.dims.now walked))
    (sym (instance_before u v A c.args.member.now c.args.dims.now c.args.frame.0 walked c.in_ok-walk.ensures.grows c.requires.member c.requires.frame) ∙ c.in_ok-instance.ensures.value)
