use Rattle.std.proofs.Common.{rules, ◌≡◌, refl, sym, Err}
use Rattle.mo_typing.proofs.Gathering.{gathered, one_more, one_stops_by, ended}
use Rattle.mo_typing.specs.Subscripts.{subscripts_of, both, fine}
use Rattle.mo_typing.proofs.Checking.{within_expression, in_Whole, in_Decimal, in_Str, in_Truth, in_Literal, in_Time, in_Vars, in_Sum, in_Product, in_Power, in_Relation, in_Not, in_All, in_Any, in_If, in_Call, in_Der, in_Array, in_Range, in_Size, in_Sized}
use Rattle.mo_typing.proofs.checks.+subscripts.Goals as goal

pub in_expression-returns : goal.in_expression-returns
in_expression-returns t c = rw (within_expression c.args.e.now) (rw c.get.ensures at c.subscripts_of_node.ensures)

pub subscripts_of_node-returns-in-Whole : goal.subscripts_of_node-returns-in-Whole
subscripts_of_node-returns-in-Whole t c = rw (c.in-Whole.is, in_Whole c.in-Whole.field-0) refl

pub subscripts_of_node-returns-in-Decimal : goal.subscripts_of_node-returns-in-Decimal
subscripts_of_node-returns-in-Decimal t c = rw (c.in-Decimal.is, in_Decimal c.in-Decimal.field-0) refl

pub subscripts_of_node-returns-in-Str : goal.subscripts_of_node-returns-in-Str
subscripts_of_node-returns-in-Str t c = rw (c.in-Str.is, in_Str c.in-Str.field-0) refl

pub subscripts_of_node-returns-in-Truth : goal.subscripts_of_node-returns-in-Truth
subscripts_of_node-returns-in-Truth t c = rw (c.in-Truth.is, in_Truth c.in-Truth.field-0) refl

pub subscripts_of_node-returns-in-Literal : goal.subscripts_of_node-returns-in-Literal
subscripts_of_node-returns-in-Literal t c = rw (c.in-Literal.is, in_Literal c.in-Literal.field-0 c.in-Literal.field-1 c.in-Literal.field-2) refl

pub subscripts_of_node-returns-in-Time : goal.subscripts_of_node-returns-in-Time
subscripts_of_node-returns-in-Time t c = rw (c.in-Time.is, in_Time) refl

pub subscripts_of_node-returns-in-Range : goal.subscripts_of_node-returns-in-Range
subscripts_of_node-returns-in-Range t c = rw (c.in-Range.is, in_Range c.in-Range.field-0 c.in-Range.field-1 c.in-Range.field-2) refl

pub subscripts_of_node-returns-in-Vars : goal.subscripts_of_node-returns-in-Vars
subscripts_of_node-returns-in-Vars t c = rw (c.in-Vars.is, in_Vars c.in-Vars.vars c.in-Vars.kind c.in-Vars.dims c.in-Vars.subs) (search rules)

pub subscripts_of_node-returns-in-Sum : goal.subscripts_of_node-returns-in-Sum
subscripts_of_node-returns-in-Sum t c = rw (c.in-Sum.is, in_Sum c.in-Sum.terms) (rw c.as_slice-in-Sum.ensures at c.in_terms.ensures)

pub subscripts_of_node-returns-in-Product : goal.subscripts_of_node-returns-in-Product
subscripts_of_node-returns-in-Product t c = rw (c.in-Product.is, in_Product c.in-Product.factors) (rw c.as_slice-in-Product.ensures at c.in_terms-in-Product.ensures)

pub subscripts_of_node-returns-in-Power : goal.subscripts_of_node-returns-in-Power
subscripts_of_node-returns-in-Power t c = rw (c.in-Power.is, in_Power c.in-Power.base c.in-Power.field-1 c.in-Power.exponent) c.in_both.ensures

pub subscripts_of_node-returns-in-Relation : goal.subscripts_of_node-returns-in-Relation
subscripts_of_node-returns-in-Relation t c = rw (c.in-Relation.is, in_Relation c.in-Relation.field-0 c.in-Relation.left c.in-Relation.right) c.in_both-in-Relation.ensures

pub subscripts_of_node-returns-in-Not : goal.subscripts_of_node-returns-in-Not
subscripts_of_node-returns-in-Not t c = rw (c.in-Not.is, in_Not c.in-Not.inner) c.in_expression.ensures

pub subscripts_of_node-returns-in-Der : goal.subscripts_of_node-returns-in-Der
subscripts_of_node-returns-in-Der t c = rw (c.in-Der.is, in_Der c.in-Der.inner) c.in_expression-in-Der.ensures

pub subscripts_of_node-returns-in-All : goal.subscripts_of_node-returns-in-All
subscripts_of_node-returns-in-All t c = rw (c.in-All.is, in_All c.in-All.parts) (rw c.as_slice-in-All.ensures at c.in_parts.ensures)

pub subscripts_of_node-returns-in-Any : goal.subscripts_of_node-returns-in-Any
subscripts_of_node-returns-in-Any t c = rw (c.in-Any.is, in_Any c.in-Any.parts) (rw c.as_slice-in-Any.ensures at c.in_parts-in-Any.ensures)

pub subscripts_of_node-returns-in-Array : goal.subscripts_of_node-returns-in-Array
subscripts_of_node-returns-in-Array t c = rw (c.in-Array.is, in_Array c.in-Array.parts) (rw c.as_slice-in-Array.ensures at c.in_parts-in-Array.ensures)

pub subscripts_of_node-returns-in-Call : goal.subscripts_of_node-returns-in-Call
subscripts_of_node-returns-in-Call t c = rw (c.in-Call.is, in_Call c.in-Call.field-0 c.in-Call.args) (rw c.as_slice-in-Call.ensures at c.in_parts-in-Call.ensures)

pub subscripts_of_node-returns-in-If : goal.subscripts_of_node-returns-in-If
subscripts_of_node-returns-in-If t c = rw (c.in-If.is, in_If c.in-If.branches c.in-If.other) (rw c.as_slice-in-If.ensures at c.in_choice.ensures)

pub subscripts_of_node-returns-in-Size : goal.subscripts_of_node-returns-in-Size
subscripts_of_node-returns-in-Size t c = rw (c.in-Size.is, in_Size c.in-Size.inner c.in-Size.at) c.in_size.ensures

pub subscripts_of_node-returns-in-Sized : goal.subscripts_of_node-returns-in-Sized
subscripts_of_node-returns-in-Sized t c = rw (c.in-Sized.is, in_Sized c.in-Sized.field-0 c.in-Sized.part c.in-Sized.field-2) c.in_option.ensures

pub in_terms-loop-term-init : goal.in_terms-loop-term-init
in_terms-loop-term-init t c = refl

pub in_terms-returns-in_err-in_expression : goal.in_terms-returns-in_err-in_expression
in_terms-returns-in_err-in_expression t c = let p : c.from_residual.result ≡ Err c.in_err-in_expression.field-0.0 = search rules in rw p (one_stops_by (λ t. subscripts_of t.2) (λ c. c) (λ s u. s) (λ s. fine) (tt {0}) c.args.terms.now c.loop-term.term-index c.term-item.result c.in_err-in_expression.field-0.0 _ c.loop-term-test.true c.loop-term.invariant c.term-item.is c.in_err-in_expression.ensures)

pub in_terms-loop-term-preserved : goal.in_terms-loop-term-preserved
in_terms-loop-term-preserved t c = one_more (λ t. subscripts_of t.2) (λ c. c) (λ s u. s) (λ s. fine) (tt {0}) c.args.terms.now c.loop-term.term-index c.term-item.result c.in_ok-in_expression.field-0 _ c.loop-term-test.true c.loop-term.invariant c.term-item.is c.in_ok-in_expression.ensures

pub in_terms-returns : goal.in_terms-returns
in_terms-returns t c = sym (ended (gathered (λ t. subscripts_of t.2) (λ c. c) (λ s u. s) (λ s. fine) (tt {0})) c.args.terms.now c.loop-term.term-index _ c.loop-term-test.false c.loop-term.invariant)

pub in_parts-loop-part-init : goal.in_parts-loop-part-init
in_parts-loop-part-init t c = refl

pub in_parts-returns-in_err-in_expression : goal.in_parts-returns-in_err-in_expression
in_parts-returns-in_err-in_expression t c = let p : c.from_residual.result ≡ Err c.in_err-in_expression.field-0.0 = search rules in rw p (one_stops_by subscripts_of (λ c. c) (λ s u. s) (λ s. fine) (tt {0}) c.args.parts.now c.loop-part.part-index c.part-item.result c.in_err-in_expression.field-0.0 _ c.loop-part-test.true c.loop-part.invariant c.part-item.is c.in_err-in_expression.ensures)

pub in_parts-loop-part-preserved : goal.in_parts-loop-part-preserved
in_parts-loop-part-preserved t c = one_more subscripts_of (λ c. c) (λ s u. s) (λ s. fine) (tt {0}) c.args.parts.now c.loop-part.part-index c.part-item.result c.in_ok-in_expression.field-0 _ c.loop-part-test.true c.loop-part.invariant c.part-item.is c.in_ok-in_expression.ensures

pub in_parts-returns : goal.in_parts-returns
in_parts-returns t c = sym (ended (gathered subscripts_of (λ c. c) (λ s u. s) (λ s. fine) (tt {0})) c.args.parts.now c.loop-part.part-index _ c.loop-part-test.false c.loop-part.invariant)

pub in_branches-loop-branch-init : goal.in_branches-loop-branch-init
in_branches-loop-branch-init t c = refl

pub in_branches-returns-in_err-in_both : goal.in_branches-returns-in_err-in_both
in_branches-returns-in_err-in_both t c = let p : c.from_residual.result ≡ Err c.in_err-in_both.field-0.0 = search rules in rw p (one_stops_by (λ b. both (subscripts_of b.0) (subscripts_of b.1)) (λ c. c) (λ s u. s) (λ s. fine) (tt {0}) c.args.branches.now c.loop-branch.branch-index c.branch-item.result c.in_err-in_both.field-0.0 _ c.loop-branch-test.true c.loop-branch.invariant c.branch-item.is c.in_err-in_both.ensures)

pub in_branches-loop-branch-preserved : goal.in_branches-loop-branch-preserved
in_branches-loop-branch-preserved t c = one_more (λ b. both (subscripts_of b.0) (subscripts_of b.1)) (λ c. c) (λ s u. s) (λ s. fine) (tt {0}) c.args.branches.now c.loop-branch.branch-index c.branch-item.result c.in_ok-in_both.field-0 _ c.loop-branch-test.true c.loop-branch.invariant c.branch-item.is c.in_ok-in_both.ensures

pub in_branches-returns : goal.in_branches-returns
in_branches-returns t c = sym (ended (gathered (λ b. both (subscripts_of b.0) (subscripts_of b.1)) (λ c. c) (λ s u. s) (λ s. fine) (tt {0})) c.args.branches.now c.loop-branch.branch-index _ c.loop-branch-test.false c.loop-branch.invariant)
