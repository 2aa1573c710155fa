-- The element at the place of its name.
use Rattle.std.proofs.Common.{[], map, refl, sym, ◌∙◌}
use Rattle.mo_scope.specs.Sights.{part_seen}
use Rattle.mo_scope.proofs.OwnNaming.{first_read, first_nowhere}
use Rattle.mo_scope.proofs.own_names.OwnNames.first.Goals as goal

pub returns-in-Some : goal.returns-in-Some
returns-in-Some c = c.element_at.ensures
    ∙ first_read c.args.name.now [] (map part_seen c.args.parts.now) 0 0 c.in-Some.place refl (sym (c.requires c.args.name.now) ∙ sym c.place.ensures ∙ c.in-Some.is)

pub returns-in-None : goal.returns-in-None
returns-in-None c = first_nowhere c.args.name.now (map part_seen c.args.parts.now) 0 0 (sym (c.requires c.args.name.now) ∙ sym c.place.ensures ∙ c.in-None.is)
