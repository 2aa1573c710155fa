-- The elements by name are those of the walk.
use Rattle.std.proofs.Common.{map, ap, sym, subst, ◌∙◌}
use Rattle.mo_syntax.specs.Outcome.{Outcome, and_then}
use Rattle.mo_scope.specs.Lookup.{Walked}
use Rattle.mo_scope.specs.Outcome.{Gives}
use Rattle.mo_scope.specs.Places.{Every}
use Rattle.mo_scope.specs.Redeclarations.{redeclarations_checked}
use Rattle.mo_scope.specs.Worlds.{frame_at, frames_of, table_in}
use Rattle.mo_redeclare.specs.steps.Sights.{IsKept, entry_of, named_seen}
use Rattle.mo_redeclare.proofs.Checking.{walk_is}
use Rattle.mo_redeclare.proofs.Tables.{all_kept}
use Rattle.mo_names.proofs.Later.{grows_refl}
use Rattle.mo_redeclare.proofs.check.check_redeclared.Goals as goal

pub each_checked_in-requires-clause-members : goal.each_checked_in-requires-clause-members
each_checked_in-requires-clause-members c =
    subst (Every (IsKept c.args.s.now)) (sym (c.in_ok-members.ensures ∙ ap (map entry_of) c.as_slice.ensures)) (all_kept c.args.s.now c.args.walk.now.members c.requires.walk.members)

pub returns-clause-value : goal.returns-clause-value
returns-clause-value c =
    subst (Gives {T = Unit {0}} (λ _. tt) c.each_checked_in.result)
    (walk_is c.args.s.now c.args.walk.now c.args.frame.0 c.in_ok-members.members c.is_some.result c.as_slice-2.result.now
    (c.in_ok-members.ensures ∙ ap (map entry_of) c.as_slice.ensures)
    c.is_some.ensures
    (ap (map (named_seen (frames_of c.args.s.now))) c.as_slice-2.ensures ∙ c.in_ok-redeclared.ensures.are)
    ∙ sym (ap (λ (o : Outcome Walked). and_then o (λ walked. redeclarations_checked (table_in c.args.s.now) walked (frame_at c.args.s.now c.args.frame.0))) c.requires.elements))
    c.each_checked_in.ensures.value

pub returns-in_err-redeclared-clause-grows : goal.returns-in_err-redeclared-clause-grows
returns-in_err-redeclared-clause-grows c = grows_refl _

pub returns-in_err-members-clause-grows : goal.returns-in_err-members-clause-grows
returns-in_err-members-clause-grows c = grows_refl _
