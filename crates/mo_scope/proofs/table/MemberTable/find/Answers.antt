-- The element at the place of its name.
use Rattle.std.proofs.Common.{find, map, ap, sym, ◌∙◌}
use Rattle.std.specs.Str.{bytes_eq}
use Rattle.mo_scope.specs.Sights.{member_seen}
use Rattle.mo_scope.proofs.Named.{named, found_nowhere}
use Rattle.mo_scope.proofs.table.MemberTable.find.Goals as goal

pub returns-in-Some : goal.returns-in-Some
returns-in-Some c = named member_seen c.args.self.now c.self.inside.members c.args.name.now c.in-Some.at c.get.result c.self.view_is
    (sym (c.self.invariant.places c.args.name.now) ∙ sym c.place.ensures ∙ c.in-Some.is) c.get.ensures

pub returns-in-None : goal.returns-in-None
returns-in-None c = found_nowhere (map member_seen c.self.inside.members) c.args.name.now (sym (c.self.invariant.places c.args.name.now) ∙ sym c.place.ensures ∙ c.in-None.is)
    ∙ ap (find (λ member. bytes_eq member.name c.args.name.now)) c.self.view_is
