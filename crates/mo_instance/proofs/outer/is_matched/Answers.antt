-- The type of the outer component, then that of the inner one.
use Rattle.std.proofs.Common.{[], subst}
use Rattle.std.proofs.lemmas.Result.{err_from_is_err_and}
use Rattle.mo_scope.specs.Names.{child_of_member}
use Rattle.mo_scope.specs.Outcome.{Gives}
use Rattle.mo_scope.specs.Worlds.{frames_of, table_in}
use Rattle.mo_names.specs.Children.{child_seen}
use Rattle.mo_names.specs.Sights.{member_of}
use Rattle.mo_names.proofs.Later.{grows_trans, is_member_later}
use Rattle.mo_instance.specs.steps.Outer.{matched_children}
use Rattle.mo_instance.proofs.Later.{is_child_later}
use Rattle.mo_instance.proofs.Lists.{broken_on}
use Rattle.mo_instance.proofs.Outers.{matched_is, other_is}
use Rattle.mo_instance.proofs.outer.is_matched.Goals as goal

pub returns-in_err-other-clause-value : goal.returns-in_err-other-clause-value
returns-in_err-other-clause-value c =
    let p = err_from_is_err_and c.from_residual-in_err-other.result c.from_residual-in_err-other.ensures.1 in
    let u = c.args.s.now in
    let v = c.child_of_member.new.s in
    rw (p.1, p.2) (broken_on {U = Unit {0}} (child_seen (frames_of c.child_of_member-2.new.s)) (λ _. tt) c.in_err-other.field-0.0 (child_of_member (table_in v) (member_of (frames_of v) c.args.inner.now) [])
    (λ other. matched_children (table_in u) (member_of (frames_of u) c.args.outer.now) (child_seen (frames_of v) c.in_ok-child.child) (member_of (frames_of u) c.args.inner.now) other) _
    c.in_err-other.ensures.value
    (other_is u v c.args.outer.now c.args.inner.now c.in_ok-child.ensures.grows c.requires.outer c.requires.inner c.in_ok-child.child c.in_ok-child.ensures.value))

pub returns-clause-value : goal.returns-clause-value
returns-clause-value c =
    let u = c.args.s.now in
    let v = c.child_of_member.new.s in
    subst (Gives {T = Unit {0}} {A = Unit {0}} (λ _. tt) c.is_matched_by.result)
    (matched_is u v c.args.outer.now c.args.inner.now c.in_ok-child.ensures.grows c.requires.outer c.requires.inner c.child_of_member-2.new.s c.in_ok-child.child c.in_ok-other.other
    c.in_ok-other.ensures.grows c.in_ok-child.ensures.stand c.in_ok-child.ensures.value c.in_ok-other.ensures.value)
    c.is_matched_by.ensures.value

pub is_matched_by-requires-clause-outer : goal.is_matched_by-requires-clause-outer
is_matched_by-requires-clause-outer c =
    let u = c.args.s.now in
    let v = c.child_of_member.new.s in
    let w = c.child_of_member-2.new.s in (
      is_member_later u w c.args.outer.now (grows_trans u v w c.in_ok-child.ensures.grows c.in_ok-other.ensures.grows) c.requires.outer,
      is_child_later v w c.in_ok-child.child c.in_ok-other.ensures.grows c.in_ok-child.ensures.stand,
    )

pub returns-in_err-child-clause-grows : goal.returns-in_err-child-clause-grows
returns-in_err-child-clause-grows c = c.in_err-child.ensures.grows

pub returns-in_err-other-clause-grows : goal.returns-in_err-other-clause-grows
returns-in_err-other-clause-grows c = grows_trans c.args.s.now c.child_of_member.new.s c.child_of_member-2.new.s c.in_ok-child.ensures.grows c.in_err-other.ensures.grows

pub returns-clause-grows : goal.returns-clause-grows
returns-clause-grows c = grows_trans c.args.s.now c.child_of_member-2.new.s c.is_matched_by.new.s (grows_trans c.args.s.now c.child_of_member.new.s c.child_of_member-2.new.s c.in_ok-child.ensures.grows c.in_ok-other.ensures.grows) c.is_matched_by.ensures.grows
