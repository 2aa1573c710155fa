-- The row and the names stand at one place.
use Rattle.std.proofs.Common.{map, ap, sym, subst, ◌∙◌}
use Rattle.std.specs.Prelude.{option_copied, option_map}
use Rattle.std.proofs.lemmas.Option.{slice_get-map}
use Rattle.mo_scope.specs.OwnNames.{AreNamed, first_at, first_own}
use Rattle.mo_scope.specs.Rows.{elements_in}
use Rattle.mo_scope.specs.Sights.{part_seen, row_seen}
use Rattle.mo_scope.proofs.OwnNaming.{named_beside, stands_beside}
use Rattle.mo_scope.proofs.classes.Classes.first_own.Goals as goal

pub first-requires : goal.first-requires
first-requires c = subst (AreNamed c.in-Some-get.names.now) (sym c.as_slice.ensures)
    (named_beside c.args.self.now.owns c.args.self.now.rows c.args.at c.in-Some-get.names.now c.in-Some.row.now c.requires
    (sym c.get.ensures ∙ ap option_copied c.in-Some.is) (sym c.get-in-Some.ensures ∙ ap option_copied c.in-Some-get.is))

pub returns-in-Some-get : goal.returns-in-Some-get
returns-in-Some-get c = c.first.ensures
    ∙ ap (λ parts. first_own c.args.name.now 0 (elements_in (map part_seen parts))) c.as_slice.ensures
    ∙ sym (ap (first_at c.args.name.now) (slice_get-map row_seen c.args.self.now.rows c.args.at ∙ ap (option_map row_seen) (sym c.get.ensures ∙ ap option_copied c.in-Some.is)))

pub returns-in-None-get : goal.returns-in-None-get
returns-in-None-get c = absurd (stands_beside c.args.self.now.owns c.args.self.now.rows c.args.at c.in-Some.row.now c.requires
    (sym c.get.ensures ∙ ap option_copied c.in-Some.is) (sym c.get-in-Some.ensures ∙ ap option_copied c.in-None-get.is))

pub returns-in-None : goal.returns-in-None
returns-in-None c = sym (ap (first_at c.args.name.now) (slice_get-map row_seen c.args.self.now.rows c.args.at ∙ ap (option_map row_seen) (sym c.get.ensures ∙ ap option_copied c.in-None.is)))
