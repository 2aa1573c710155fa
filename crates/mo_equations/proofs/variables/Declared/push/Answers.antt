-- One variable more.
use Rattle.std.proofs.Common.{ℕ, ◌+◌, List, flat_map, ap, sym, subst, ◌∙◌}
use Rattle.mo_flat.specs.declared.model.FlatEquation.{FlatEquation}
use Rattle.mo_flat.specs.declared.model.FlatVar.{FlatVar}
use Rattle.mo_scope.specs.Worlds.{frames_of}
use Rattle.mo_equations.specs.Gathering.{beside, made_equations}
use Rattle.mo_equations.specs.Variables.{Declared, declared_with, variable_with}
use Rattle.mo_equations.specs.steps.Declaring.{built_held, equation_of, equation_with, nodes_held, variable_in}
use Rattle.mo_equations.specs.steps.Flats.{capped}
use Rattle.mo_equations.specs.steps.Makings.{IsFlatOption, IsMade}
use Rattle.mo_equations.proofs.Declares.{count_is, declared_more, equation_held, equations_are, role_is, variable_is}
use Rattle.mo_equations.proofs.Making.{on_ok}
use Rattle.mo_equations.proofs.variables.Declared.push.Goals as goal

pub returns : goal.returns
returns c = on_ok c.push_var.result (λ more tree before given e classes are attributes is bound.
    let F = frames_of c.args.s.now in
    let v = c.args.variable.now in
    let role = v.leaf.now.role in
    let variable = variable_in F v in
    let one : Declared = declared_with tree variable given e in
    let nodes = ap (λ p. p.0) c.opened-nodes.ensures ∙ ap nodes_held c.split_binding-printed.ensures.printed in
    let printed = ap (λ p. p.1) c.opened-nodes.ensures ∙ ap built_held c.split_binding-printed.ensures.printed in
    let var = c.in_ok-var.ensures tree classes in
    let put = c.in_ok-push_binding.ensures (made_equations (flat_map (λ (x : Declared). x.equations) before)) (equation_of role e) are.made
    (subst (λ o. IsFlatOption o (equation_of role e)) (sym c.split_binding-printed.ensures.equation) (equation_held role c.args.binding e is)) in
    declared_more c.args.self.now c.push_var.new.self c.push_binding.new.made before one c.saturating_add-nodes.result c.in_ok-var.var are more
    (ap capped (c.saturating_add-nodes.ensures ∙ ap (λ (n : ℕ). capped (n + c.args.attributes.nodes)) nodes) ∙ count_is F tree v c.args.attributes given c.args.binding e attributes is bound)
    (ap (λ (x : FlatVar). x.role) var ∙ role_is F tree v c.args.attributes given c.args.binding e attributes is bound)
    (λ few. var ∙ ap (variable_with tree variable c.args.attributes.built) printed ∙ variable_is F tree v c.args.attributes given c.args.binding e attributes is bound few)
    (subst (λ (qs : List FlatEquation). IsMade c.push_binding.new.made (beside (made_equations (flat_map (λ (x : Declared). x.equations) before)) (made_equations qs)))
    (ap (λ place. equation_with v.number place (equation_of role e)) c.place_of_binding-place.ensures ∙ sym (equations_are F tree v c.args.attributes given c.args.binding e attributes is bound)) put)) c.push_var.ensures
