-- By its place.
use Rattle.std.proofs.Common.{ap, sym, ◌∙◌}
use Rattle.std.specs.Option.{option_copied}
use Rattle.mo_equations.specs.steps.LeafTables.{leaves_in}
use Rattle.mo_equations.proofs.Tabled.{looked_up, none_placed, placed_at}
use Rattle.mo_equations.proofs.leaves.Leaves.variable.Goals as goal

pub returns-in-Some : goal.returns-in-Some
returns-in-Some c =
    let leaves = c.args.self.now in
    let lookup = c.get-in-Some.ensures.lookup in
    looked_up leaves.instances.now c.in-Some.place.now c.get-in-Some.result lookup.1 lookup.0
    ∙ placed_at leaves.instances.now leaves.places (leaves_in leaves.instances.now) c.args.k c.in-Some.place.now c.requires (sym c.get.ensures ∙ ap option_copied c.in-Some.is)

pub returns-in-None : goal.returns-in-None
returns-in-None c =
    let leaves = c.args.self.now in
    sym (none_placed leaves.instances.now leaves.places (leaves_in leaves.instances.now) c.args.k c.requires (sym c.get.ensures ∙ ap option_copied c.in-None.is))
