-- One more element.
use Rattle.std.proofs.Common.{◌+◌, ◌∷◌, ◌++◌, [], ap, drop, map, sym, subst, ◌∙◌}
use Rattle.mo_scope.specs.Frames.{Frame}
use Rattle.mo_scope.specs.Places.{Every}
use Rattle.mo_scope.specs.Worlds.{frame_at, frames_of}
use Rattle.mo_scope.proofs.laws.Standing.{every_append}
use Rattle.mo_names.specs.Sights.{IsInherited, inherited_seen}
use Rattle.mo_names.specs.steps.Twins.{owned_inherited}
use Rattle.mo_names.proofs.Later.{all_inherited_later, are_inherited_later, frame_later, grows_refl, grows_trans, is_frame_later, inherited_later, is_inherited_later}
use Rattle.mo_lookup.proofs.OwnedWalks.{made_all, made_on, next_of}
use Rattle.mo_names.proofs.Outcomes.{at_exit}
use Rattle.mo_lookup.proofs.owning.members_owned.Goals as goal

pub loop-held-init : goal.loop-held-init
loop-held-init c =
    let s = c.args.s.now in
    let F : Frame = frame_at s c.args.frame.0 in
    record {
      grows = grows_refl s;
      found = subst (Every (IsInherited s)) (sym c.new-found.ensures) tt;
      left = c.requires.members;
      made = c.requires.made;
      are = ap (λ found. map (inherited_seen (frames_of s)) found ++ map (owned_inherited F) (map (inherited_seen (frames_of s)) c.args.members.now)) c.new-found.ensures;
    }

pub inherited_owned-requires-clause-frame : goal.inherited_owned-requires-clause-frame
inherited_owned-requires-clause-frame c = is_frame_later c.args.s.now c.loop-held.s c.args.frame.0 c.loop-held.invariant.grows c.requires.frame

pub inherited_owned-requires-clause-made : goal.inherited_owned-requires-clause-made
inherited_owned-requires-clause-made c = c.loop-held.invariant.made

pub returns-in_err-inherited_owned-clause-grows : goal.returns-in_err-inherited_owned-clause-grows
returns-in_err-inherited_owned-clause-grows c = grows_trans c.args.s.now c.loop-held.s c.inherited_owned.new.s c.loop-held.invariant.grows c.in_err-inherited_owned.ensures.grows

pub returns-in_err-inherited_owned-clause-are : goal.returns-in_err-inherited_owned-clause-are
returns-in_err-inherited_owned-clause-are c = at_exit _ _ c.from_residual.result c.from_residual.ensures.1

pub returns-in_err-inherited_owned-clause-exist : goal.returns-in_err-inherited_owned-clause-exist
returns-in_err-inherited_owned-clause-exist c = at_exit _ _ c.from_residual.result c.from_residual.ensures.1

pub returns-in_err-inherited_owned-clause-made : goal.returns-in_err-inherited_owned-clause-made
returns-in_err-inherited_owned-clause-made c = c.in_err-inherited_owned.ensures.made

pub returns-in_err-push-clause-grows : goal.returns-in_err-push-clause-grows
returns-in_err-push-clause-grows c = grows_trans c.args.s.now c.loop-held.s c.inherited_owned.new.s c.loop-held.invariant.grows c.in_ok-inherited_owned.ensures.grows

pub returns-in_err-push-clause-are : goal.returns-in_err-push-clause-are
returns-in_err-push-clause-are c = at_exit _ _ c.from_residual-in_err-push.result c.from_residual-in_err-push.ensures.1

pub returns-in_err-push-clause-exist : goal.returns-in_err-push-clause-exist
returns-in_err-push-clause-exist c = at_exit _ _ c.from_residual-in_err-push.result c.from_residual-in_err-push.ensures.1

pub returns-in_err-push-clause-made : goal.returns-in_err-push-clause-made
returns-in_err-push-clause-made c = c.in_ok-inherited_owned.ensures.made

pub inherited_owned-requires-clause-held : goal.inherited_owned-requires-clause-held
inherited_owned-requires-clause-held c =
    let s = c.args.s.now in
    let held = c.held-item.result in
    let left = next_of (IsInherited s) c.args.members.now c.loop-held.held-index held c.loop-held-test.true c.held-item.is c.loop-held.invariant.left in
    is_inherited_later s c.loop-held.s c.loop-held.invariant.grows held left.0

pub loop-held-preserved : goal.loop-held-preserved
loop-held-preserved c =
    let s = c.args.s.now in
    let u = c.loop-held.s in
    let v = c.inherited_owned.new.s in
    let held = c.held-item.result in
    let F : Frame = frame_at s c.args.frame.0 in
    let left = next_of (IsInherited s) c.args.members.now c.loop-held.held-index held c.loop-held-test.true c.held-item.is c.loop-held.invariant.left in
    let g = c.in_ok-inherited_owned.ensures.grows in
    record {
      grows = grows_trans s u v c.loop-held.invariant.grows g;
      found = subst (Every (IsInherited v)) (sym c.in_ok-push.ensures.ok)
          (every_append (IsInherited v) c.loop-held.found (c.in_ok-inherited_owned.field-0 ∷ []) (are_inherited_later u v c.loop-held.found g c.loop-held.invariant.found) (c.in_ok-inherited_owned.ensures.exist, tt));
      left = left.1;
      made = c.in_ok-inherited_owned.ensures.made;
      are =
          ap (λ found. map (inherited_seen (frames_of v)) found ++ map (owned_inherited F) (map (inherited_seen (frames_of s)) (drop (c.loop-held.held-index + 1) c.args.members.now))) c.in_ok-push.ensures.ok
          ∙ made_on (inherited_seen (frames_of u)) (inherited_seen (frames_of v)) (owned_inherited F) (inherited_seen (frames_of s)) c.loop-held.found c.args.members.now c.loop-held.held-index held c.in_ok-inherited_owned.field-0 _
          c.loop-held-test.true c.held-item.is
          (c.in_ok-inherited_owned.ensures.is ∙ ap (λ f. owned_inherited f (inherited_seen (frames_of u) held)) (frame_later s u c.args.frame.0 c.loop-held.invariant.grows c.requires.frame)
          ∙ ap (owned_inherited F) (inherited_later s u c.loop-held.invariant.grows held left.0))
          (all_inherited_later u v c.loop-held.found g c.loop-held.invariant.found) c.loop-held.invariant.are;
    }

pub returns-clause-grows : goal.returns-clause-grows
returns-clause-grows c = c.loop-held.invariant.grows

pub returns-clause-are : goal.returns-clause-are
returns-clause-are c =
    made_all (inherited_seen (frames_of c.loop-held.s)) (owned_inherited (frame_at c.args.s.now c.args.frame.0)) (inherited_seen (frames_of c.args.s.now)) c.loop-held.found c.args.members.now c.loop-held.held-index _
    c.loop-held-test.false c.loop-held.invariant.are

pub returns-clause-exist : goal.returns-clause-exist
returns-clause-exist c = c.loop-held.invariant.found

pub returns-clause-made : goal.returns-clause-made
returns-clause-made c = c.loop-held.invariant.made
