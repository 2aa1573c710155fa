use Rattle.std.proofs.Common.{◌≡◌, refl, sym, ◌∙◌, arith, rules, Ok, Err}
use Rattle.mo_syntax.specs.Outcome.{breaks}
use Rattle.mo_syntax.specs.declared.rules.TheConstants.{WRONG_TYPE}
use Rattle.mo_typing.specs.Kinds.{part_of, with_number, with_truth, joined, settled, condition, branch_kind, call}
use Rattle.mo_typing.proofs.Gathering.{gathered, one_more, one_stops, ended, asked_first, refused_first}
use Rattle.mo_typing.proofs.Calls.{many_args}
use Rattle.mo_typing.proofs.Nodes.{kind_in, at_Sum, at_Product, at_If, at_Sized}
use Rattle.mo_typing.proofs.kinds.+kinds.Goals as goal

pub of_terms-loop-term-init : goal.of_terms-loop-term-init
of_terms-loop-term-init t c = refl

pub of_terms-returns-in_err-kind_of : goal.of_terms-returns-in_err-kind_of
of_terms-returns-in_err-kind_of t c = let e = one_stops (λ t. part_of t.2) kind_in (with_number c.args.place) (λ a. a) c.loop-term.all c.args.terms.now c.loop-term.term-index c.term-item.result c.in_err-kind_of.field-0.0 _ c.loop-term-test.true c.loop-term.invariant c.term-item.is (sym c.kind_of.ensures ∙ c.in_err-kind_of.was) in let p : c.from_residual.result ≡ Err c.in_err-kind_of.field-0.0 = search rules in p ∙ e

pub of_terms-loop-term-preserved : goal.of_terms-loop-term-preserved
of_terms-loop-term-preserved t c = rw c.with_number-all.ensures (one_more (λ t. part_of t.2) kind_in (with_number c.args.place) (λ a. a) c.loop-term.all c.args.terms.now c.loop-term.term-index c.term-item.result c.in_ok-kind_of.field-0 _ c.loop-term-test.true c.loop-term.invariant c.term-item.is (sym c.kind_of.ensures ∙ c.in_ok-kind_of.was))

pub of_terms-returns : goal.of_terms-returns
of_terms-returns t c = ended (gathered (λ t. part_of t.2) kind_in (with_number c.args.place) (λ a. a) c.loop-term.all) c.args.terms.now c.loop-term.term-index _ c.loop-term-test.false c.loop-term.invariant

pub of_logical-loop-part-init : goal.of_logical-loop-part-init
of_logical-loop-part-init t c = refl

pub of_logical-returns-in_err-kind_of : goal.of_logical-returns-in_err-kind_of
of_logical-returns-in_err-kind_of t c = let e = one_stops part_of kind_in (with_truth c.args.place) (λ a. a) c.loop-part.all c.args.parts.now c.loop-part.part-index c.part-item.result c.in_err-kind_of.field-0.0 _ c.loop-part-test.true c.loop-part.invariant c.part-item.is (sym c.kind_of.ensures ∙ c.in_err-kind_of.was) in let p : c.from_residual.result ≡ Err c.in_err-kind_of.field-0.0 = search rules in p ∙ e

pub of_logical-loop-part-preserved : goal.of_logical-loop-part-preserved
of_logical-loop-part-preserved t c = rw c.with_truth-all.ensures (one_more part_of kind_in (with_truth c.args.place) (λ a. a) c.loop-part.all c.args.parts.now c.loop-part.part-index c.part-item.result c.in_ok-kind_of.field-0 _ c.loop-part-test.true c.loop-part.invariant c.part-item.is (sym c.kind_of.ensures ∙ c.in_ok-kind_of.was))

pub of_logical-returns : goal.of_logical-returns
of_logical-returns t c = ended (gathered part_of kind_in (with_truth c.args.place) (λ a. a) c.loop-part.all) c.args.parts.now c.loop-part.part-index _ c.loop-part-test.false c.loop-part.invariant

pub of_array-loop-part-init : goal.of_array-loop-part-init
of_array-loop-part-init t c = refl

pub of_array-returns-in_err-kind_of : goal.of_array-returns-in_err-kind_of
of_array-returns-in_err-kind_of t c = let e = one_stops part_of kind_in joined (settled c.args.place) c.loop-part.all c.args.parts.now c.loop-part.part-index c.part-item.result c.in_err-kind_of.field-0.0 _ c.loop-part-test.true c.loop-part.invariant c.part-item.is (sym c.kind_of.ensures ∙ c.in_err-kind_of.was) in let p : c.from_residual.result ≡ Err c.in_err-kind_of.field-0.0 = search rules in p ∙ e

pub of_array-loop-part-preserved : goal.of_array-loop-part-preserved
of_array-loop-part-preserved t c = rw c.joined-all.ensures (one_more part_of kind_in joined (settled c.args.place) c.loop-part.all c.args.parts.now c.loop-part.part-index c.part-item.result c.in_ok-kind_of.field-0 _ c.loop-part-test.true c.loop-part.invariant c.part-item.is (sym c.kind_of.ensures ∙ c.in_ok-kind_of.was))

pub of_array-returns : goal.of_array-returns
of_array-returns t c = c.settled.ensures ∙ ended (gathered part_of kind_in joined (settled c.args.place) c.loop-part.all) c.args.parts.now c.loop-part.part-index _ c.loop-part-test.false c.loop-part.invariant

pub have_kinds-loop-part-init : goal.have_kinds-loop-part-init
have_kinds-loop-part-init t c = refl

pub have_kinds-returns-in_err-kind_of : goal.have_kinds-returns-in_err-kind_of
have_kinds-returns-in_err-kind_of t c = let e = one_stops part_of kind_in (λ s kind. s) (λ s. Ok (tt {0})) (tt {0}) c.args.parts.now c.loop-part.part-index c.part-item.result c.in_err-kind_of.field-0.0 _ c.loop-part-test.true c.loop-part.invariant c.part-item.is (sym c.kind_of.ensures ∙ c.in_err-kind_of.was) in let p : c.from_residual.result ≡ Err c.in_err-kind_of.field-0.0 = search rules in p ∙ e

pub have_kinds-loop-part-preserved : goal.have_kinds-loop-part-preserved
have_kinds-loop-part-preserved t c = (one_more part_of kind_in (λ s kind. s) (λ s. Ok (tt {0})) (tt {0}) c.args.parts.now c.loop-part.part-index c.part-item.result c.in_ok-kind_of.field-0 _ c.loop-part-test.true c.loop-part.invariant c.part-item.is (sym c.kind_of.ensures ∙ c.in_ok-kind_of.was))

pub have_kinds-returns : goal.have_kinds-returns
have_kinds-returns t c = ended (gathered part_of kind_in (λ s kind. s) (λ s. Ok (tt {0})) (tt {0})) c.args.parts.now c.loop-part.part-index _ c.loop-part-test.false c.loop-part.invariant

pub of_branches-loop-branch-init : goal.of_branches-loop-branch-init
of_branches-loop-branch-init t c = refl

pub of_branches-returns-in_err-of_condition : goal.of_branches-returns-in_err-of_condition
of_branches-returns-in_err-of_condition t c = let e = one_stops (λ b. (part_of b.0, part_of b.1)) branch_kind joined (λ s. Ok s) c.loop-branch.all c.args.branches.now c.loop-branch.branch-index c.branch-item.result c.in_err-of_condition.field-0.0 _ c.loop-branch-test.true c.loop-branch.invariant c.branch-item.is (refused_first (condition (part_of c.branch-item.result.0)) c.in_err-of_condition.field-0.0 (part_of c.branch-item.result.1).kind (sym c.of_condition.ensures ∙ c.in_err-of_condition.was)) in let p : c.from_residual.result ≡ Err c.in_err-of_condition.field-0.0 = search rules in p ∙ e

pub of_branches-returns-in_err-kind_of : goal.of_branches-returns-in_err-kind_of
of_branches-returns-in_err-kind_of t c = let e = one_stops (λ b. (part_of b.0, part_of b.1)) branch_kind joined (λ s. Ok s) c.loop-branch.all c.args.branches.now c.loop-branch.branch-index c.branch-item.result c.in_err-kind_of.field-0.0 _ c.loop-branch-test.true c.loop-branch.invariant c.branch-item.is (asked_first (condition (part_of c.branch-item.result.0)) c.in_ok-of_condition.field-0 (part_of c.branch-item.result.1).kind _ (sym c.of_condition.ensures ∙ c.in_ok-of_condition.was) (sym c.kind_of.ensures ∙ c.in_err-kind_of.was)) in let p : c.from_residual-in_err-kind_of.result ≡ Err c.in_err-kind_of.field-0.0 = search rules in p ∙ e

pub of_branches-loop-branch-preserved : goal.of_branches-loop-branch-preserved
of_branches-loop-branch-preserved t c = rw c.joined-all.ensures (one_more (λ b. (part_of b.0, part_of b.1)) branch_kind joined (λ s. Ok s) c.loop-branch.all c.args.branches.now c.loop-branch.branch-index c.branch-item.result c.in_ok-kind_of.field-0 _ c.loop-branch-test.true c.loop-branch.invariant c.branch-item.is (asked_first (condition (part_of c.branch-item.result.0)) c.in_ok-of_condition.field-0 (part_of c.branch-item.result.1).kind _ (sym c.of_condition.ensures ∙ c.in_ok-of_condition.was) (sym c.kind_of.ensures ∙ c.in_ok-kind_of.was)))

pub of_branches-returns : goal.of_branches-returns
of_branches-returns t c = ended (gathered (λ b. (part_of b.0, part_of b.1)) branch_kind joined (λ s. Ok s) c.loop-branch.all) c.args.branches.now c.loop-branch.branch-index _ c.loop-branch-test.false c.loop-branch.invariant

pub kind_of_node-returns-in-Sum : goal.kind_of_node-returns-in-Sum
kind_of_node-returns-in-Sum t c = rw (c.in-Sum.is, at_Sum c.in-Sum.terms c.args.place) (rw c.as_slice.ensures at c.of_terms.ensures)

pub kind_of_node-returns-in-Product : goal.kind_of_node-returns-in-Product
kind_of_node-returns-in-Product t c = rw (c.in-Product.is, at_Product c.in-Product.factors c.args.place) (rw c.as_slice-in-Product.ensures at c.of_product.ensures)

pub kind_of_node-returns-in-If : goal.kind_of_node-returns-in-If
kind_of_node-returns-in-If t c = rw (c.in-If.is, at_If c.in-If.branches c.in-If.other c.args.place) (rw c.as_slice-in-If.ensures at c.of_choice.ensures)

pub kind_of_node-returns-in-Sized : goal.kind_of_node-returns-in-Sized
kind_of_node-returns-in-Sized t c = rw (c.in-Sized.is, at_Sized c.in-Sized.function c.in-Sized.part c.in-Sized.sizes c.args.place) (rw c.len.ensures at c.of_sized.ensures)

pub of_call-returns-in_ok-have_kinds-in-len3-up : goal.of_call-returns-in_ok-have_kinds-in-len3-up
of_call-returns-in_ok-have_kinds-in-len3-up t c = rw c.broken-in-len3-up.ensures (many_args part_of kind_in (call c.args.place c.args.function) (breaks WRONG_TYPE c.args.place) (λ p q r ys. refl) c.args.args.now c.in_ok-have_kinds-in-len3-up.field-0 (omega arith) (sym c.have_kinds.ensures ∙ c.in_ok-have_kinds-in-len3-up.was))
