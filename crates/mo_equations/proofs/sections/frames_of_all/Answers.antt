-- The frames of all instances, one after another.
use Rattle.std.proofs.Common.{◌≡◌, ◌+◌, [], List, Ok, Err, map, take, drop, refl, ap, sym, subst, ◌∙◌, rules}
use Rattle.std.proofs.lemmas.List.{take_all}
use Rattle.mo_syntax.specs.Outcome.{IfBroken, Outcome}
use Rattle.mo_syntax.specs.declared.meaning.FrameId.{FrameId}
use Rattle.mo_scope.specs.declared.instance.Instance.{Instance as InstanceAt}
use Rattle.mo_scope.specs.Frames.{Frame}
use Rattle.mo_scope.specs.Instances.{Instance}
use Rattle.mo_scope.specs.Rows.{Table}
use Rattle.mo_scope.specs.Trees.{IsInstance, instance_in, instances_in}
use Rattle.mo_scope.specs.Worlds.{frame_at, frames_of, table_in}
use Rattle.mo_names.proofs.Later.{frame_later, grows_refl, grows_trans, is_frame_later, table_later}
use Rattle.mo_equations.specs.Sections.{frames_of as frames_with_sections}
use Rattle.mo_equations.specs.steps.Placing.{frames_of_instances, frames_seen}
use Rattle.mo_equations.proofs.Formed.{mapped_split, mapped_taken}
use Rattle.mo_equations.proofs.Lists.{every_at, split_at}
use Rattle.mo_equations.proofs.Parted.{frames_more, frames_stop, seen_both, seen_later}
use Rattle.mo_equations.proofs.sections.frames_of_all.Goals as goal

pub loop-instance-init : goal.loop-instance-init
loop-instance-init c = record { grows = grows_refl c.args.s.now; exist = rw c.new-frames.ensures tt; are = rw c.new-frames.ensures refl }

pub put_frames-requires-clause-frame : goal.put_frames-requires-clause-frame
put_frames-requires-clause-frame c =
    let is = every_at (IsInstance c.args.s.now) c.args.instances.now c.loop-instance.instance-index c.instance-item.result c.requires c.loop-instance-test.true c.instance-item.is in
    is_frame_later c.args.s.now c.loop-instance.s c.instance-item.result.frame.0 c.loop-instance.invariant.grows is.frame

pub loop-instance-preserved : goal.loop-instance-preserved
loop-instance-preserved c =
    let u = c.args.s.now in
    let v = c.loop-instance.s in
    let w = c.put_frames.new.s in
    let all = c.args.instances.now in
    let i = c.loop-instance.instance-index in
    let item = c.instance-item.result in
    let inv = c.loop-instance.invariant in
    let is = every_at (IsInstance u) all i item c.requires c.loop-instance-test.true c.instance-item.is in
    let exact = c.in_ok-put_frames.ensures.exact in
    let told = ap (λ (T : Table). frames_with_sections T (frame_at u item.frame.0)) (sym (table_later u v inv.grows)) ∙ (ap (frames_with_sections (table_in v)) (sym (frame_later u v item.frame.0 inv.grows is.frame)) ∙ exact.2) in
    let before = inv.are ∙ ap (λ (fs : List Frame). Ok fs) (sym (seen_later v w c.loop-instance.frames c.in_ok-put_frames.ensures.grows inv.exist)) in
    let more = frames_more (table_in u) (instances_in u (take i all)) [] (instance_in (frames_of u) item) (frames_seen (frames_of w) c.loop-instance.frames) (frames_seen (frames_of w) exact.0) before told in
    record {
      grows = grows_trans u v w inv.grows c.in_ok-put_frames.ensures.grows;
      exist = c.in_ok-put_frames.ensures.exist;
      are = ap (frames_of_instances (table_in u)) (mapped_taken (instance_in (frames_of u)) all i item item c.loop-instance-test.true c.instance-item.is)
          ∙ (more ∙ ap (λ (fs : List Frame). Ok fs) (sym (ap (frames_seen (frames_of w)) exact.1 ∙ seen_both (frames_of w) c.loop-instance.frames exact.0)));
    }

pub returns-in_err-put_frames-clause-refused : goal.returns-in_err-put_frames-clause-refused
returns-in_err-put_frames-clause-refused c =
    let u = c.args.s.now in
    let v = c.loop-instance.s in
    let all = c.args.instances.now in
    let i = c.loop-instance.instance-index in
    let item = c.instance-item.result in
    let inv = c.loop-instance.invariant in
    let is = every_at (IsInstance u) all i item c.requires c.loop-instance-test.true c.instance-item.is in
    let stop = c.in_err-put_frames.field-0.0 in
    let p : c.from_residual.result ≡ Err stop = search rules in
    let told : frames_with_sections (table_in v) (frame_at v item.frame.0) ≡ frames_with_sections (table_in u) (frame_at u item.frame.0) =
    ap (λ (T : Table). frames_with_sections T (frame_at v item.frame.0)) (table_later u v inv.grows) ∙ ap (frames_with_sections (table_in u)) (frame_later u v item.frame.0 inv.grows is.frame) in
    let split = ap (map (instance_in (frames_of u))) (split_at all i item c.loop-instance-test.true c.instance-item.is) ∙ mapped_split (instance_in (frames_of u)) (take i all) (drop (i + 1) all) item in
    rw p
    (subst (λ (xs : List Instance). IfBroken {T = List FrameId} (Err stop) (λ broken. frames_of_instances (table_in u) xs ≡ Err broken)) (sym split)
    (frames_stop (table_in u) (instances_in u (take i all)) (instances_in u (drop (i + 1) all)) (instance_in (frames_of u) item) (frames_seen (frames_of v) c.loop-instance.frames) stop inv.are
    (subst (λ (o : Outcome (List Frame)). IfBroken {T = Unit {0}} (Err stop) (λ broken. o ≡ Err broken)) told c.in_err-put_frames.ensures.refused)))

pub returns-clause-exact : goal.returns-clause-exact
returns-clause-exact c =
    ap (λ (xs : List InstanceAt). frames_of_instances (table_in c.args.s.now) (instances_in c.args.s.now xs)) (sym (take_all c.loop-instance.instance-index c.args.instances.now c.loop-instance-test.false))
    ∙ c.loop-instance.invariant.are
