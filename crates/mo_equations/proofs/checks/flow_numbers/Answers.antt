-- One after another.
use Rattle.std.proofs.lemmas.List.Elements.{All-more, All-nil}
use Rattle.std.proofs.Common.{ℕ, ◌∙◌, sym}
use Rattle.mo_syntax.specs.declared.place.Place.{Place}
use Rattle.mo_connect.specs.Equations.{IsNumericVariable}
use Rattle.mo_equations.proofs.Checked.{all_done}
use Rattle.mo_equations.proofs.checks.flow_numbers.Goals as goal

pub loop-flow-init : goal.loop-flow-init
loop-flow-init c = All-nil (λ (flow : ℕ × Place). IsNumericVariable c.args.vars.now flow.0)

pub loop-flow-preserved : goal.loop-flow-preserved
loop-flow-preserved c =
    All-more (λ (flow : ℕ × Place). IsNumericVariable c.args.vars.now flow.0) c.args.flows.now c.loop-flow.flow-index _ c.loop-flow-test.true c.loop-flow.invariant
    (sym c.is_numeric_variable.ensures ∙ c.if-not-is_numeric_variable.false)

pub returns : goal.returns
returns c = λ yes. all_done (λ (flow : ℕ × Place). IsNumericVariable c.args.vars.now flow.0) c.args.flows.now c.loop-flow.flow-index c.loop-flow-test.false c.loop-flow.invariant
