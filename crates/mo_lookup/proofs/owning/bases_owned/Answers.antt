-- One more base.
use Rattle.std.proofs.Common.{◌+◌, ◌∷◌, ◌++◌, [], ap, drop, map, sym, subst, ◌∙◌}
use Rattle.mo_scope.specs.Frames.{Frame}
use Rattle.mo_scope.specs.Places.{Every}
use Rattle.mo_scope.specs.Worlds.{frame_at, frames_of}
use Rattle.mo_scope.proofs.laws.Standing.{every_append}
use Rattle.mo_names.specs.Sights.{AreThrough, IsBase, frames_through}
use Rattle.mo_names.specs.steps.Twins.{owned_through}
use Rattle.mo_names.proofs.Later.{all_bases_later, are_bases_later, are_through_later, frame_later, grows_refl, grows_trans, is_frame_later, is_base_later, through_later}
use Rattle.mo_lookup.proofs.OwnedWalks.{is_base_owned, made_all, made_on, next_of}
use Rattle.mo_names.proofs.Outcomes.{at_exit}
use Rattle.mo_lookup.proofs.owning.bases_owned.Goals as goal

pub loop-base-init : goal.loop-base-init
loop-base-init c =
    let s = c.args.s.now in
    let F : Frame = frame_at s c.args.frame.0 in
    record {
      grows = grows_refl s;
      found = subst (Every (IsBase s)) (sym c.new-found.ensures) tt;
      left = c.requires.bases;
      made = c.requires.made;
      are = ap (λ found. map (frames_through (frames_of s)) found ++ map (owned_through F) (map (frames_through (frames_of s)) c.args.bases.now)) c.new-found.ensures;
    }

pub through_owned-requires-clause-frame : goal.through_owned-requires-clause-frame
through_owned-requires-clause-frame c = is_frame_later c.args.s.now c.loop-base.s c.args.frame.0 c.loop-base.invariant.grows c.requires.frame

pub through_owned-requires-clause-through : goal.through_owned-requires-clause-through
through_owned-requires-clause-through c =
    let s = c.args.s.now in
    let base = c.base-item.result in
    let left = next_of (IsBase s) c.args.bases.now c.loop-base.base-index base c.loop-base-test.true c.base-item.is c.loop-base.invariant.left in
    subst (AreThrough c.loop-base.s) (sym c.as_slice.ensures) (are_through_later s c.loop-base.s base c.loop-base.invariant.grows left.0.frames)

pub through_owned-requires-clause-made : goal.through_owned-requires-clause-made
through_owned-requires-clause-made c = c.loop-base.invariant.made

pub returns-in_err-through-clause-grows : goal.returns-in_err-through-clause-grows
returns-in_err-through-clause-grows c = grows_trans c.args.s.now c.loop-base.s c.through_owned.new.s c.loop-base.invariant.grows c.in_err-through.ensures.grows

pub returns-in_err-through-clause-are : goal.returns-in_err-through-clause-are
returns-in_err-through-clause-are c = at_exit _ _ c.from_residual.result c.from_residual.ensures.1

pub returns-in_err-through-clause-exist : goal.returns-in_err-through-clause-exist
returns-in_err-through-clause-exist c = at_exit _ _ c.from_residual.result c.from_residual.ensures.1

pub returns-in_err-through-clause-made : goal.returns-in_err-through-clause-made
returns-in_err-through-clause-made c = c.in_err-through.ensures.made

pub returns-in_err-push-clause-grows : goal.returns-in_err-push-clause-grows
returns-in_err-push-clause-grows c = grows_trans c.args.s.now c.loop-base.s c.through_owned.new.s c.loop-base.invariant.grows c.in_ok-through.ensures.grows

pub returns-in_err-push-clause-are : goal.returns-in_err-push-clause-are
returns-in_err-push-clause-are c = at_exit _ _ c.from_residual-in_err-push.result c.from_residual-in_err-push.ensures.1

pub returns-in_err-push-clause-exist : goal.returns-in_err-push-clause-exist
returns-in_err-push-clause-exist c = at_exit _ _ c.from_residual-in_err-push.result c.from_residual-in_err-push.ensures.1

pub returns-in_err-push-clause-made : goal.returns-in_err-push-clause-made
returns-in_err-push-clause-made c = c.in_ok-through.ensures.made

pub loop-base-preserved : goal.loop-base-preserved
loop-base-preserved c =
    let s = c.args.s.now in
    let u = c.loop-base.s in
    let v = c.through_owned.new.s in
    let base = c.base-item.result in
    let F : Frame = frame_at s c.args.frame.0 in
    let left = next_of (IsBase s) c.args.bases.now c.loop-base.base-index base c.loop-base-test.true c.base-item.is c.loop-base.invariant.left in
    let now = is_base_later s u c.loop-base.invariant.grows base left.0 in
    let is = c.in_ok-through.ensures.is ∙ ap (λ xs. owned_through (frame_at u c.args.frame.0) (frames_through (frames_of u) xs)) c.as_slice.ensures in
    record {
      grows = grows_trans s u v c.loop-base.invariant.grows c.in_ok-through.ensures.grows;
      found = subst (Every (IsBase v)) (sym c.in_ok-push.ensures.ok)
          (every_append (IsBase v) c.loop-base.found (c.in_ok-through.through ∷ []) (are_bases_later u v c.loop-base.found c.in_ok-through.ensures.grows c.loop-base.invariant.found)
          (is_base_owned u v (frame_at u c.args.frame.0) base c.in_ok-through.through now c.in_ok-through.ensures.exist is, tt));
      left = left.1;
      made = c.in_ok-through.ensures.made;
      are =
          ap (λ found. map (frames_through (frames_of v)) found ++ map (owned_through F) (map (frames_through (frames_of s)) (drop (c.loop-base.base-index + 1) c.args.bases.now))) c.in_ok-push.ensures.ok
          ∙ made_on (frames_through (frames_of u)) (frames_through (frames_of v)) (owned_through F) (frames_through (frames_of s)) c.loop-base.found c.args.bases.now c.loop-base.base-index base c.in_ok-through.through _
          c.loop-base-test.true c.base-item.is
          (is ∙ ap (λ f. owned_through f (frames_through (frames_of u) base)) (frame_later s u c.args.frame.0 c.loop-base.invariant.grows c.requires.frame)
          ∙ ap (owned_through F) (through_later s u base c.loop-base.invariant.grows left.0.frames))
          (all_bases_later u v c.loop-base.found c.in_ok-through.ensures.grows c.loop-base.invariant.found) c.loop-base.invariant.are;
    }

pub returns-clause-grows : goal.returns-clause-grows
returns-clause-grows c = c.loop-base.invariant.grows

pub returns-clause-are : goal.returns-clause-are
returns-clause-are c =
    made_all (frames_through (frames_of c.loop-base.s)) (owned_through (frame_at c.args.s.now c.args.frame.0)) (frames_through (frames_of c.args.s.now)) c.loop-base.found c.args.bases.now c.loop-base.base-index _
    c.loop-base-test.false c.loop-base.invariant.are

pub returns-clause-exist : goal.returns-clause-exist
returns-clause-exist c = c.loop-base.invariant.found

pub returns-clause-made : goal.returns-clause-made
returns-clause-made c = c.loop-base.invariant.made
