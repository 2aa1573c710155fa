use Rattle.std.proofs.Common.{ap, ◌∙◌}
use Rattle.mo_typing.specs.Shape.{or_scalar, added, multiplied, operand}
use Rattle.mo_typing.proofs.Loops.{fold_step, fold_ended}
use Rattle.mo_typing.proofs.Trees.{shape_Sum, shape_Product}
use Rattle.mo_typing.proofs.shapes.+shape.Goals as goal

pub of_terms-loop-term-preserved : goal.of_terms-loop-term-preserved
of_terms-loop-term-preserved t c = fold_step added operand c.loop-term.all c.in_ok-all.all c.args.terms.now c.loop-term.term-index c.term-item.result _ c.loop-term-test.true c.term-item.is c.loop-term.invariant c.in_ok-all.ensures

pub of_factors-loop-factor-preserved : goal.of_factors-loop-factor-preserved
of_factors-loop-factor-preserved t c = fold_step multiplied operand c.loop-factor.all c.in_ok-all.all c.args.factors.now c.loop-factor.factor-index c.factor-item.result _ c.loop-factor-test.true c.factor-item.is c.loop-factor.invariant c.in_ok-all.ensures

pub of_terms-returns : goal.of_terms-returns
of_terms-returns t c = c.or_scalar.ensures ∙ ap or_scalar (fold_ended added operand c.loop-term.all c.args.terms.now c.loop-term.term-index _ c.loop-term-test.false c.loop-term.invariant)

pub of_factors-returns : goal.of_factors-returns
of_factors-returns t c = c.or_scalar.ensures ∙ ap or_scalar (fold_ended multiplied operand c.loop-factor.all c.args.factors.now c.loop-factor.factor-index _ c.loop-factor-test.false c.loop-factor.invariant)

pub shape_of_node-returns-in-Sum : goal.shape_of_node-returns-in-Sum
shape_of_node-returns-in-Sum t c = rw (c.in-Sum.is, shape_Sum c.in-Sum.terms) (rw c.as_slice-in-Sum.ensures at c.of_terms.ensures)

pub shape_of_node-returns-in-Product : goal.shape_of_node-returns-in-Product
shape_of_node-returns-in-Product t c = rw (c.in-Product.is, shape_Product c.in-Product.factors) (rw c.as_slice-in-Product.ensures at c.of_factors.ensures)
