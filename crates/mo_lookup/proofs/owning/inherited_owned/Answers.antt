-- An element as that of another frame.
use Rattle.std.proofs.Common.{ap, sym, subst, ◌∙◌}
use Rattle.mo_scope.specs.Worlds.{frame_at, frames_of}
use Rattle.mo_names.specs.Sights.{AreThrough, frames_through, member_of}
use Rattle.mo_names.specs.steps.Twins.{owned_home, owned_through}
use Rattle.mo_names.proofs.Later.{is_member_later}
use Rattle.mo_lookup.proofs.OwnedWalks.{is_member_at, same_element}
use Rattle.mo_names.proofs.Outcomes.{at_exit}
use Rattle.mo_lookup.proofs.owning.inherited_owned.Goals as goal

pub through_owned-requires-clause-frame : goal.through_owned-requires-clause-frame
through_owned-requires-clause-frame c = c.requires.frame

pub through_owned-requires-clause-through : goal.through_owned-requires-clause-through
through_owned-requires-clause-through c = subst (AreThrough c.args.s.now) (sym c.as_slice.ensures) c.requires.held.through

pub through_owned-requires-clause-made : goal.through_owned-requires-clause-made
through_owned-requires-clause-made c = c.requires.made

pub returns-in_err-through-clause-grows : goal.returns-in_err-through-clause-grows
returns-in_err-through-clause-grows c = c.in_err-through.ensures.grows

pub returns-in_err-through-clause-is : goal.returns-in_err-through-clause-is
returns-in_err-through-clause-is c = at_exit _ _ c.from_residual.result c.from_residual.ensures.1

pub returns-in_err-through-clause-exist : goal.returns-in_err-through-clause-exist
returns-in_err-through-clause-exist c = at_exit _ _ c.from_residual.result c.from_residual.ensures.1

pub returns-in_err-through-clause-made : goal.returns-in_err-through-clause-made
returns-in_err-through-clause-made c = c.in_err-through.ensures.made

pub returns-then-class_of-clause-grows : goal.returns-then-class_of-clause-grows
returns-then-class_of-clause-grows c = c.in_ok-through.ensures.grows

pub returns-then-class_of-clause-is : goal.returns-then-class_of-clause-is
returns-then-class_of-clause-is c = tt

pub returns-then-class_of-clause-exist : goal.returns-then-class_of-clause-exist
returns-then-class_of-clause-exist c = tt

pub returns-then-class_of-clause-made : goal.returns-then-class_of-clause-made
returns-then-class_of-clause-made c = c.in_ok-through.ensures.made

pub returns-clause-grows : goal.returns-clause-grows
returns-clause-grows c = c.in_ok-through.ensures.grows

pub returns-clause-is : goal.returns-clause-is
returns-clause-is c =
    let s = c.args.s.now in
    let F = frame_at s c.args.frame.0 in
    same_element (member_of (frames_of s) c.args.held.now.member) _ _ _ _
    (c.in_ok-through.ensures.home ∙ ap (λ xs. owned_home F (frames_through (frames_of s) xs)) c.as_slice.ensures)
    (c.in_ok-through.ensures.is ∙ ap (λ xs. owned_through F (frames_through (frames_of s) xs)) c.as_slice.ensures)

pub returns-clause-exist : goal.returns-clause-exist
returns-clause-exist c =
    let v = c.through_owned.new.s in
    record {
      member =
          is_member_at v c.args.held.now.member c.in_ok-through.home (is_member_later c.args.s.now v c.args.held.now.member c.in_ok-through.ensures.grows c.requires.held.member) c.in_ok-through.ensures.exists
          (sym c.class_of.ensures.is ∙ c.if-class_of.false ∙ c.class_of-2.ensures.is);
      through = c.in_ok-through.ensures.exist;
    }

pub returns-clause-made : goal.returns-clause-made
returns-clause-made c = c.in_ok-through.ensures.made
