use Rattle.std.proofs.Common.{◌≡◌, refl, sym, ◌∙◌, arith, rules, Ok, Err}
use Rattle.mo_syntax.specs.Outcome.{breaks}
use Rattle.mo_syntax.specs.declared.rules.TheConstants.{WRONG_TYPE}
use Rattle.mo_typing.specs.Dims.{part_of, operand, branch_dims, with_operand, added, multiplied, settled, with_alike, with_scalar, condition, call}
use Rattle.mo_typing.proofs.Gathering.{gathered, one_more, one_stops_by, ended, asked_first, stops_first, stops_through, given_first, gives_as}
use Rattle.mo_typing.proofs.Calls.{many_args}
use Rattle.mo_typing.proofs.PartDims.{dims_in, signed_part, branch_part, at_Sum, at_Product, at_If}
use Rattle.mo_typing.proofs.dims.+dims.Goals as goal

pub of_terms-loop-term-init : goal.of_terms-loop-term-init
of_terms-loop-term-init t c = refl

pub of_terms-returns-in_err-shape : goal.of_terms-returns-in_err-shape
of_terms-returns-in_err-shape t c = let p : c.from_residual.result ≡ Err c.in_err-shape.field-0.0 = search rules in rw p (one_stops_by signed_part operand (with_operand (added c.args.place)) settled c.loop-term.all c.args.terms.now c.loop-term.term-index c.term-item.result c.in_err-shape.field-0.0 _ c.loop-term-test.true c.loop-term.invariant c.term-item.is (stops_through c.in_err-shape.field-0.0 (part_of c.term-item.result.2).dims (λ d. Ok (c.term-item.result.0, c.term-item.result.1, d)) c.in_err-shape.ensures))

pub of_terms-loop-term-preserved : goal.of_terms-loop-term-preserved
of_terms-loop-term-preserved t c = rw c.with_term-all.ensures (one_more signed_part operand (with_operand (added c.args.place)) settled c.loop-term.all c.args.terms.now c.loop-term.term-index c.term-item.result (c.term-item.result.0, c.term-item.result.1, c.in_ok-shape.shape) _ c.loop-term-test.true c.loop-term.invariant c.term-item.is (given_first (part_of c.term-item.result.2).dims c.in_ok-shape.shape (λ d. Ok (c.term-item.result.0, c.term-item.result.1, d)) c.in_ok-shape.ensures))

pub of_terms-returns : goal.of_terms-returns
of_terms-returns t c = gives_as c.answer.result _ _ (c.chained.ensures ∙ (ended (gathered signed_part operand (with_operand (added c.args.place)) settled c.loop-term.all) c.args.terms.now c.loop-term.term-index _ c.loop-term-test.false c.loop-term.invariant)) c.answer.ensures

pub of_factors-loop-factor-init : goal.of_factors-loop-factor-init
of_factors-loop-factor-init t c = refl

pub of_factors-returns-in_err-shape : goal.of_factors-returns-in_err-shape
of_factors-returns-in_err-shape t c = let p : c.from_residual.result ≡ Err c.in_err-shape.field-0.0 = search rules in rw p (one_stops_by signed_part operand (with_operand (multiplied c.args.place)) settled c.loop-factor.all c.args.factors.now c.loop-factor.factor-index c.factor-item.result c.in_err-shape.field-0.0 _ c.loop-factor-test.true c.loop-factor.invariant c.factor-item.is (stops_through c.in_err-shape.field-0.0 (part_of c.factor-item.result.2).dims (λ d. Ok (c.factor-item.result.0, c.factor-item.result.1, d)) c.in_err-shape.ensures))

pub of_factors-loop-factor-preserved : goal.of_factors-loop-factor-preserved
of_factors-loop-factor-preserved t c = rw c.in_ok-all.ensures (one_more signed_part operand (with_operand (multiplied c.args.place)) settled c.loop-factor.all c.args.factors.now c.loop-factor.factor-index c.factor-item.result (c.factor-item.result.0, c.factor-item.result.1, c.in_ok-shape.shape) _ c.loop-factor-test.true c.loop-factor.invariant c.factor-item.is (given_first (part_of c.factor-item.result.2).dims c.in_ok-shape.shape (λ d. Ok (c.factor-item.result.0, c.factor-item.result.1, d)) c.in_ok-shape.ensures))

pub of_factors-returns : goal.of_factors-returns
of_factors-returns t c = gives_as c.answer.result _ _ (c.chained.ensures ∙ (ended (gathered signed_part operand (with_operand (multiplied c.args.place)) settled c.loop-factor.all) c.args.factors.now c.loop-factor.factor-index _ c.loop-factor-test.false c.loop-factor.invariant)) c.answer.ensures

pub of_elements-loop-part-init : goal.of_elements-loop-part-init
of_elements-loop-part-init t c = refl

pub of_elements-returns-in_err-shape : goal.of_elements-returns-in_err-shape
of_elements-returns-in_err-shape t c = let p : c.from_residual.result ≡ Err c.in_err-shape.field-0.0 = search rules in rw p (one_stops_by part_of dims_in (with_alike c.args.place) settled c.loop-part.all c.args.parts.now c.loop-part.part-index c.part-item.result c.in_err-shape.field-0.0 _ c.loop-part-test.true c.loop-part.invariant c.part-item.is c.in_err-shape.ensures)

pub of_elements-loop-part-preserved : goal.of_elements-loop-part-preserved
of_elements-loop-part-preserved t c = rw c.with_alike-all.ensures (one_more part_of dims_in (with_alike c.args.place) settled c.loop-part.all c.args.parts.now c.loop-part.part-index c.part-item.result c.in_ok-shape.shape _ c.loop-part-test.true c.loop-part.invariant c.part-item.is c.in_ok-shape.ensures)

pub of_elements-returns : goal.of_elements-returns
of_elements-returns t c = gives_as c.answer.result _ _ (c.chained.ensures ∙ (ended (gathered part_of dims_in (with_alike c.args.place) settled c.loop-part.all) c.args.parts.now c.loop-part.part-index _ c.loop-part-test.false c.loop-part.invariant)) c.answer.ensures

pub of_scalars-loop-part-init : goal.of_scalars-loop-part-init
of_scalars-loop-part-init t c = rw c.new.ensures refl

pub of_scalars-returns-in_err-shape : goal.of_scalars-returns-in_err-shape
of_scalars-returns-in_err-shape t c = let p : c.from_residual.result ≡ Err c.in_err-shape.field-0.0 = search rules in rw p (one_stops_by part_of dims_in (with_scalar c.args.place) (λ a. a) c.loop-part.all c.args.parts.now c.loop-part.part-index c.part-item.result c.in_err-shape.field-0.0 _ c.loop-part-test.true c.loop-part.invariant c.part-item.is c.in_err-shape.ensures)

pub of_scalars-loop-part-preserved : goal.of_scalars-loop-part-preserved
of_scalars-loop-part-preserved t c = rw c.with_scalar-all.ensures (one_more part_of dims_in (with_scalar c.args.place) (λ a. a) c.loop-part.all c.args.parts.now c.loop-part.part-index c.part-item.result c.in_ok-shape.shape _ c.loop-part-test.true c.loop-part.invariant c.part-item.is c.in_ok-shape.ensures)

pub of_scalars-returns : goal.of_scalars-returns
of_scalars-returns t c = gives_as c.answer.result _ _ (ended (gathered part_of dims_in (with_scalar c.args.place) (λ a. a) c.loop-part.all) c.args.parts.now c.loop-part.part-index _ c.loop-part-test.false c.loop-part.invariant) c.answer.ensures

pub have_dims-loop-part-init : goal.have_dims-loop-part-init
have_dims-loop-part-init t c = refl

pub have_dims-returns-in_err-dims : goal.have_dims-returns-in_err-dims
have_dims-returns-in_err-dims t c = let p : c.from_residual.result ≡ Err c.in_err-dims.field-0.0 = search rules in rw p (one_stops_by part_of dims_in (λ s d. s) (λ s. Ok (tt {0})) (tt {0}) c.args.parts.now c.loop-part.part-index c.part-item.result c.in_err-dims.field-0.0 _ c.loop-part-test.true c.loop-part.invariant c.part-item.is c.in_err-dims.ensures)

pub have_dims-loop-part-preserved : goal.have_dims-loop-part-preserved
have_dims-loop-part-preserved t c = (one_more part_of dims_in (λ s d. s) (λ s. Ok (tt {0})) (tt {0}) c.args.parts.now c.loop-part.part-index c.part-item.result c.in_ok-dims.field-0 _ c.loop-part-test.true c.loop-part.invariant c.part-item.is c.in_ok-dims.ensures)

pub have_dims-returns : goal.have_dims-returns
have_dims-returns t c = sym (ended (gathered part_of dims_in (λ s d. s) (λ s. Ok (tt {0})) (tt {0})) c.args.parts.now c.loop-part.part-index _ c.loop-part-test.false c.loop-part.invariant)

pub of_branches-loop-branch-init : goal.of_branches-loop-branch-init
of_branches-loop-branch-init t c = refl

pub of_branches-returns-in_err-of_condition : goal.of_branches-returns-in_err-of_condition
of_branches-returns-in_err-of_condition t c = let p : c.from_residual.result ≡ Err c.in_err-of_condition.field-0.0 = search rules in rw p (one_stops_by branch_part branch_dims (with_alike c.args.place) (λ s. Ok s) c.loop-branch.all c.args.branches.now c.loop-branch.branch-index c.branch-item.result c.in_err-of_condition.field-0.0 _ c.loop-branch-test.true c.loop-branch.invariant c.branch-item.is (stops_through c.in_err-of_condition.field-0.0 (condition (part_of c.branch-item.result.0)) (λ _. (part_of c.branch-item.result.1).dims) c.in_err-of_condition.ensures))

pub of_branches-returns-in_err-shape : goal.of_branches-returns-in_err-shape
of_branches-returns-in_err-shape t c = let p : c.from_residual-in_err-shape.result ≡ Err c.in_err-shape.field-0.0 = search rules in rw p (one_stops_by branch_part branch_dims (with_alike c.args.place) (λ s. Ok s) c.loop-branch.all c.args.branches.now c.loop-branch.branch-index c.branch-item.result c.in_err-shape.field-0.0 _ c.loop-branch-test.true c.loop-branch.invariant c.branch-item.is (stops_first c.in_err-shape.field-0.0 (condition (part_of c.branch-item.result.0)) c.in_ok-of_condition.field-0 (part_of c.branch-item.result.1).dims c.in_ok-of_condition.ensures c.in_err-shape.ensures))

pub of_branches-loop-branch-preserved : goal.of_branches-loop-branch-preserved
of_branches-loop-branch-preserved t c = rw c.with_alike-all.ensures (one_more branch_part branch_dims (with_alike c.args.place) (λ s. Ok s) c.loop-branch.all c.args.branches.now c.loop-branch.branch-index c.branch-item.result c.in_ok-shape.shape _ c.loop-branch-test.true c.loop-branch.invariant c.branch-item.is (asked_first (condition (part_of c.branch-item.result.0)) c.in_ok-of_condition.field-0 (part_of c.branch-item.result.1).dims _ c.in_ok-of_condition.ensures c.in_ok-shape.ensures))

pub of_branches-returns : goal.of_branches-returns
of_branches-returns t c = sym (ended (gathered branch_part branch_dims (with_alike c.args.place) (λ s. Ok s) c.loop-branch.all) c.args.branches.now c.loop-branch.branch-index _ c.loop-branch-test.false c.loop-branch.invariant)

pub dims_of_node-returns-in-Sum : goal.dims_of_node-returns-in-Sum
dims_of_node-returns-in-Sum t c = rw (c.in-Sum.is, at_Sum c.in-Sum.terms c.args.place) (rw c.as_slice-in-Sum.ensures at c.of_terms.ensures)

pub dims_of_node-returns-in-Product : goal.dims_of_node-returns-in-Product
dims_of_node-returns-in-Product t c = rw (c.in-Product.is, at_Product c.in-Product.factors c.args.place) (rw c.as_slice-in-Product.ensures at c.of_factors.ensures)

pub dims_of_node-returns-in-If : goal.dims_of_node-returns-in-If
dims_of_node-returns-in-If t c = rw (c.in-If.is, at_If c.in-If.branches c.in-If.other c.args.place) (rw c.as_slice-in-If.ensures at c.of_choice.ensures)

pub of_call-returns-in_ok-have_dims-in-len3-up : goal.of_call-returns-in_ok-have_dims-in-len3-up
of_call-returns-in_ok-have_dims-in-len3-up t c = rw c.broken-in-len3-up.ensures (sym (many_args part_of dims_in (call c.args.place c.args.function) (breaks WRONG_TYPE c.args.place) (λ p q r ys. refl) c.args.args.now c.in_ok-have_dims-in-len3-up.field-0 (omega arith) c.in_ok-have_dims-in-len3-up.ensures))
