-- The frames of an instance: its bases, then its class.
use Rattle.std.proofs.Common.{◌≡◌, ◌++◌, ◌∷◌, [], List, Err, refl, ap, ◌∙◌, append_assoc, rules}
use Rattle.mo_syntax.specs.declared.meaning.FrameId.{FrameId}
use Rattle.mo_scope.specs.Worlds.{frame_at, frames_of, table_in}
use Rattle.mo_names.specs.Sights.{walk_seen}
use Rattle.mo_names.proofs.Later.{is_frame_later}
use Rattle.mo_equations.specs.steps.Placing.{last_frames}
use Rattle.mo_equations.proofs.Parted.{all_exist, both_exist, exist_later, walk_halts, walked_frames}
use Rattle.mo_equations.proofs.sections.put_frames.Goals as goal

pub returns-in_err-walk-clause-refused : goal.returns-in_err-walk-clause-refused
returns-in_err-walk-clause-refused c =
    let stop = c.in_err-walk.field-0.0 in
    let p : c.from_residual.result ≡ Err stop = search rules in
    rw p (walk_halts (walk_seen (frames_of c.walk_of.new.s)) (table_in c.args.s.now) (frame_at c.args.s.now c.args.frame.0) stop c.in_err-walk.ensures.value)

pub returns-clause-exact : goal.returns-clause-exact
returns-clause-exact c =
    let old = c.args.frames.now in
    let last = last_frames c.in_ok-walk.walk.sections in
    let more = last ++ c.args.frame ∷ [] in
    let bases = rw c.as_slice.ensures at c.in_ok-put_bases.ensures in (
      more,
      c.in_ok-push.ensures.ok ∙ (ap (λ (fs : List FrameId). fs ++ c.args.frame ∷ []) bases ∙ append_assoc old last (c.args.frame ∷ [])),
      walked_frames c.args.s.now c.walk_of.new.s c.args.frame c.in_ok-walk.walk more c.in_ok-walk.ensures.grows c.requires.frame c.in_ok-walk.ensures.stand.sections c.in_ok-walk.ensures.value refl,
    )

pub returns-clause-exist : goal.returns-clause-exist
returns-clause-exist c =
    let world = c.walk_of.new.s in
    let last = last_frames c.in_ok-walk.walk.sections in
    let bases = rw c.as_slice.ensures at c.in_ok-put_bases.ensures in
    let all : c.push.new.self ≡ (c.args.frames.now ++ last) ++ c.args.frame ∷ [] = c.in_ok-push.ensures.ok ∙ ap (λ (fs : List FrameId). fs ++ c.args.frame ∷ []) bases in
    rw all
    (both_exist world (c.args.frames.now ++ last) (c.args.frame ∷ [])
    (both_exist world c.args.frames.now last (exist_later c.args.s.now world c.args.frames.now c.in_ok-walk.ensures.grows c.requires.before) (all_exist world c.in_ok-walk.walk.sections c.in_ok-walk.ensures.stand.sections))
    (is_frame_later c.args.s.now world c.args.frame.0 c.in_ok-walk.ensures.grows c.requires.frame, tt))
