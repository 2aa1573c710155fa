-- They are entered where they have as many dimensions.
use Rattle.std.proofs.Common.{◌∙◌, subst}
use Rattle.mo_syntax.specs.declared.meaning.FrameId.{FrameId}
use Rattle.mo_scope.specs.Frames.{Frame}
use Rattle.mo_scope.specs.Outcome.{Gives}
use Rattle.mo_scope.specs.Worlds.{frame_at, frames_of, table_in}
use Rattle.mo_names.specs.Children.{child_seen}
use Rattle.mo_names.specs.Sights.{member_of}
use Rattle.mo_names.proofs.Later.{grows_trans, is_member_later}
use Rattle.mo_redeclare.proofs.Later.{alike, entered_before, is_child_later, unlike}
use Rattle.mo_redeclare.proofs.entering.entered_if_alike.Goals as goal

pub returns-then-same-clause-value : goal.returns-then-same-clause-value
returns-then-same-clause-value c =
    let F = frames_of c.args.s.now in
    subst (Gives {T = FrameId × FrameId} {A = Frame × Frame} (λ frames. (frame_at c.both_entered.new.s frames.0.0, frame_at c.both_entered.new.s frames.1.0)) c.both_entered.result)
    (entered_before c.args.s.now c.same_counts.new.s c.args.new.0.now c.args.wanted.0.now c.args.new.1 c.args.wanted.1 c.in_ok-same.ensures.grows c.requires.new.0 c.requires.wanted.0 c.requires.new.1 c.requires.wanted.1
    ∙ alike (table_in c.args.s.now) c.args.place (member_of F c.args.new.0.now) (child_seen F c.args.new.1) (member_of F c.args.wanted.0.now) (child_seen F c.args.wanted.1) c.in_ok-same.same c.in_ok-same.ensures.value c.if-same.true)
    c.both_entered.ensures.value

pub returns-clause-value : goal.returns-clause-value
returns-clause-value c =
    let F = frames_of c.args.s.now in
    rw c.stop.ensures
    (unlike (table_in c.args.s.now) c.args.place (member_of F c.args.new.0.now) (child_seen F c.args.new.1) (member_of F c.args.wanted.0.now) (child_seen F c.args.wanted.1) c.in_ok-same.same c.in_ok-same.ensures.value c.if-same.false)

pub both_entered-requires-clause-new : goal.both_entered-requires-clause-new
both_entered-requires-clause-new c =
    (is_member_later c.args.s.now c.same_counts.new.s c.args.new.0.now c.in_ok-same.ensures.grows c.requires.new.0, is_child_later c.args.s.now c.same_counts.new.s c.args.new.1 c.in_ok-same.ensures.grows c.requires.new.1)

pub both_entered-requires-clause-wanted : goal.both_entered-requires-clause-wanted
both_entered-requires-clause-wanted c =
    (is_member_later c.args.s.now c.same_counts.new.s c.args.wanted.0.now c.in_ok-same.ensures.grows c.requires.wanted.0, is_child_later c.args.s.now c.same_counts.new.s c.args.wanted.1 c.in_ok-same.ensures.grows c.requires.wanted.1)

pub returns-then-same-clause-grows : goal.returns-then-same-clause-grows
returns-then-same-clause-grows c = grows_trans _ _ _ c.in_ok-same.ensures.grows c.both_entered.ensures.grows
