-- The elements of the walk, without the base frames, are those of its frame.
use Rattle.std.proofs.Common.{ap, refl, subst, sym, ◌∙◌}
use Rattle.mo_scope.specs.Places.{Every}
use Rattle.mo_scope.specs.Worlds.{frame_at, frames_of, table_in}
use Rattle.mo_names.specs.Sights.{IsMember, asks}
use Rattle.mo_names.proofs.Listing.{found_elements, held, held_stand}
use Rattle.mo_names.proofs.Tables.{asked_elements}
use Rattle.mo_names.proofs.Later.{grows_refl}
use Rattle.mo_names.proofs.kept.walk_kept.Goals as goal

pub elements_kept-requires-clause-elements : goal.elements_kept-requires-clause-elements
elements_kept-requires-clause-elements c =
    asked_elements (table_in c.args.s.now) (asks (table_in c.args.s.now) c.args.ask.now) c.args.ask.now.place (frame_at c.args.s.now c.args.frame.0) _
    (c.is_unhindered.ensures.same c.if-not-is_unhindered.false c.args.ask.now.place) c.requires.is
    ∙ found_elements (frames_of c.args.s.now) c.args.walk.now c.as_slice-2.result.now _ refl (c.as_slice-2.ensures ∙ c.in_ok-members.ensures ∙ ap held c.as_slice.ensures)

pub elements_kept-requires-clause-members : goal.elements_kept-requires-clause-members
elements_kept-requires-clause-members c =
    subst (Every (IsMember c.args.s.now)) (sym (c.as_slice-2.ensures ∙ c.in_ok-members.ensures ∙ ap held c.as_slice.ensures)) (held_stand c.args.s.now c.args.walk.now.members c.requires.stands.members)

pub returns-then-not-is_unhindered : goal.returns-then-not-is_unhindered
returns-then-not-is_unhindered c = record { grows = grows_refl _ }

pub returns-then-is_some : goal.returns-then-is_some
returns-then-is_some c = record { grows = grows_refl _ }

pub returns-in_err-members : goal.returns-in_err-members
returns-in_err-members c = record { grows = grows_refl _ }
