-- One after another.
use Rattle.std.proofs.Common.{◌∙◌, sym}
use Rattle.std.proofs.lemmas.List.Elements.{All-nil}
use Rattle.mo_flat.specs.declared.connect.EndLeaf.{EndLeaf}
use Rattle.mo_connect.specs.Equations.{IsNumericVariable}
use Rattle.mo_equations.proofs.Checked.{all_done, all_next}
use Rattle.mo_equations.proofs.checks.are_numbers.Goals as goal

pub loop-leaf-init : goal.loop-leaf-init
loop-leaf-init c = All-nil (λ (leaf : EndLeaf). IsNumericVariable c.args.vars.now leaf.variable)

pub loop-leaf-preserved : goal.loop-leaf-preserved
loop-leaf-preserved c = all_next (λ (leaf : EndLeaf). IsNumericVariable c.args.vars.now leaf.variable) c.args.leaves.now c.loop-leaf.leaf-index c.leaf-item.result c.loop-leaf-test.true c.leaf-item.is (sym c.is_numeric_variable.ensures ∙ c.if-not-is_numeric_variable.false) c.loop-leaf.invariant

pub returns : goal.returns
returns c = λ yes. all_done (λ (leaf : EndLeaf). IsNumericVariable c.args.vars.now leaf.variable) c.args.leaves.now c.loop-leaf.leaf-index c.loop-leaf-test.false c.loop-leaf.invariant
