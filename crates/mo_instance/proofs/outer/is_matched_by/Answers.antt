-- They are compared where they have as many dimensions and one flow prefix.
use Rattle.std.proofs.Common.{◌∙◌, subst}
use Rattle.mo_scope.specs.Outcome.{Gives}
use Rattle.mo_scope.specs.Worlds.{frames_of, table_in}
use Rattle.mo_names.specs.Children.{child_seen}
use Rattle.mo_names.specs.Sights.{member_of}
use Rattle.mo_names.proofs.Later.{grows_trans, is_member_later}
use Rattle.mo_instance.proofs.Later.{is_child_later}
use Rattle.mo_instance.proofs.Outers.{alike_is, compared_before, unlike_is}
use Rattle.mo_instance.proofs.outer.is_matched_by.Goals as goal

pub returns-then-alike-clause-value : goal.returns-then-alike-clause-value
returns-then-alike-clause-value c =
    let F = frames_of c.args.s.now in
    let g = c.in_ok-alike.ensures.grows in
    subst (Gives {T = Unit {0}} {A = Unit {0}} (λ _. tt) c.compared_frames.result)
    (compared_before c.args.s.now c.is_alike.new.s c.args.outer.0.now.declares.place c.args.outer.0.now c.args.inner.0.now c.args.outer.1 c.args.inner.1 g c.requires.outer.0 c.requires.inner.0 c.requires.outer.1 c.requires.inner.1
    ∙ alike_is (table_in c.args.s.now) (member_of F c.args.outer.0.now) (child_seen F c.args.outer.1) (member_of F c.args.inner.0.now) (child_seen F c.args.inner.1) c.in_ok-alike.alike c.in_ok-alike.ensures.value c.if-alike.true)
    c.compared_frames.ensures.value

pub returns-clause-value : goal.returns-clause-value
returns-clause-value c =
    let F = frames_of c.args.s.now in
    rw c.stop.ensures
    (unlike_is (table_in c.args.s.now) (member_of F c.args.outer.0.now) (child_seen F c.args.outer.1) (member_of F c.args.inner.0.now) (child_seen F c.args.inner.1) c.in_ok-alike.alike c.in_ok-alike.ensures.value c.if-alike.false)

pub compared_frames-requires-clause-outer : goal.compared_frames-requires-clause-outer
compared_frames-requires-clause-outer c =
    (is_member_later c.args.s.now c.is_alike.new.s c.args.outer.0.now c.in_ok-alike.ensures.grows c.requires.outer.0, is_child_later c.args.s.now c.is_alike.new.s c.args.outer.1 c.in_ok-alike.ensures.grows c.requires.outer.1)

pub compared_frames-requires-clause-inner : goal.compared_frames-requires-clause-inner
compared_frames-requires-clause-inner c =
    (is_member_later c.args.s.now c.is_alike.new.s c.args.inner.0.now c.in_ok-alike.ensures.grows c.requires.inner.0, is_child_later c.args.s.now c.is_alike.new.s c.args.inner.1 c.in_ok-alike.ensures.grows c.requires.inner.1)

pub returns-then-alike-clause-grows : goal.returns-then-alike-clause-grows
returns-then-alike-clause-grows c = grows_trans _ _ _ c.in_ok-alike.ensures.grows c.compared_frames.ensures.grows
