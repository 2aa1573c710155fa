-- The elements of the walk, without the base frames.
use Rattle.std.proofs.Common.{ap, sym, subst, ◌∙◌}
use Rattle.mo_scope.specs.Places.{Every}
use Rattle.mo_scope.specs.Worlds.{frames_of}
use Rattle.mo_names.specs.Sights.{IsMember}
use Rattle.mo_names.proofs.Listing.{found_elements, held, held_stand}
use Rattle.mo_lookup.proofs.element_list.elements_found.Goals as goal

pub returns-clause-value : goal.returns-clause-value
returns-clause-value c = found_elements (frames_of c.walk_of.new.s) c.in_ok-walk.walk c.in_ok-members.members _ c.in_ok-walk.ensures.value (c.in_ok-members.ensures ∙ ap held c.as_slice.ensures)

pub returns-clause-stand : goal.returns-clause-stand
returns-clause-stand c = subst (Every (IsMember c.walk_of.new.s)) (sym (c.in_ok-members.ensures ∙ ap held c.as_slice.ensures)) (held_stand c.walk_of.new.s c.in_ok-walk.walk.members c.in_ok-walk.ensures.stand.members)
