-- The expression that is counted, or filled in.
use Rattle.std.proofs.Common.{Some, None, refl, sym, ◌∙◌}
use Rattle.mo_equations.specs.declared.flat.Flat.{Flat}
use Rattle.mo_equations.proofs.Replaced.{all_good, flat_past, flat_built}
use Rattle.mo_equations.proofs.building.put_together.Goals as goal

pub returns-then-is_past : goal.returns-then-is_past
returns-then-is_past c = λ replace are asked.
    let flat : Flat = record { nodes = c.weight-nodes.result; built = None } in
    let r = all_good replace c.args.replaced.now are c.args.e.now asked in
    (r.made, r.is, flat_past flat r.made refl (c.weight-nodes.ensures ∙ sym r.nodes) (sym c.is_past.ensures ∙ c.if-is_past.true))

pub returns : goal.returns
returns c = λ replace are asked.
    let flat : Flat = record { nodes = c.weight-nodes.result; built = Some c.in_ok-built.built } in
    let r = all_good replace c.args.replaced.now are c.args.e.now asked in
    (r.made, r.is, flat_built flat r.made c.in_ok-built.built refl (r.built c.in_ok-built.built c.in_ok-built.ensures) (c.weight-nodes.ensures ∙ sym r.nodes))
