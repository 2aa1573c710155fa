-- The rows, part by part, and the forms with marks around their parts.
use Rattle.std.proofs.Common.{◌≡◌, ◌+◌, ◌++◌, length, map, refl, arith}
use Rattle.std.specs.Prelude.{codes}
use Rattle.std.proofs.lemmas.List.{length-append}
use Rattle.mo_flat.specs.Text.{branch_mark, branches_text, chain_text, factor_mark, function_name, operand, printed, separator, term_mark}
use Rattle.mo_flat.proofs.Printing.{at_All, at_Any, at_Call, at_If, at_Not, at_Product, at_Sum, not_first}
use Rattle.mo_text_size.proofs.Lengths.{alone, around, at_Der, counted, enclosed, grown, of_four, plus, row_more}
use Rattle.mo_text_size.proofs.expr.+bytes.Goals as goal

pub of_expr-returns-in-Der : goal.of_expr-returns-in-Der
of_expr-returns-in-Der t c =
    let inside = operand 0 (printed c.args.vars.now c.in-Der.inner) in
    let opens : length (codes "der(") ≡ 4 = refl in
    let closes : length (codes ")") ≡ 1 = refl in
    let e = around (codes "der(") inside (codes ")") in
    rw (c.in-Der.is, at_Der c.args.vars.now c.in-Der.inner) (counted (length inside + 5) _ (codes "der(" ++ inside ++ codes ")") (omega (arith, e, opens, closes)) (grown (length inside) 5 _ _ (rw c.get.ensures at c.of_operand.ensures) c.saturating_add.ensures))

pub of_expr-returns-in-Not : goal.of_expr-returns-in-Not
of_expr-returns-in-Not t c =
    let inside = operand 4 (printed c.args.vars.now c.in-Not.inner) in
    let mark : length (codes "not ") ≡ 4 = refl in
    let e = length-append (codes "not ") inside in
    rw (c.in-Not.is, at_Not c.args.vars.now c.in-Not.inner) (counted (length inside + 4) _ (codes "not " ++ inside) (omega (arith, e, mark)) (grown (length inside) 4 _ _ (rw c.get-in-Not.ensures at c.of_operand-in-Not.ensures) c.saturating_add-in-Not.ensures))

pub of_expr-returns-in-Sum : goal.of_expr-returns-in-Sum
of_expr-returns-in-Sum t c = rw (c.in-Sum.is, at_Sum c.args.vars.now c.in-Sum.terms) (rw c.as_slice.ensures at c.of_terms.ensures)

pub of_expr-returns-in-Product : goal.of_expr-returns-in-Product
of_expr-returns-in-Product t c = rw (c.in-Product.is, at_Product c.args.vars.now c.in-Product.factors) (rw c.as_slice-in-Product.ensures at c.of_factors.ensures)

pub of_expr-returns-in-Call : goal.of_expr-returns-in-Call
of_expr-returns-in-Call t c = rw (c.in-Call.is, at_Call c.args.vars.now c.in-Call.function c.in-Call.args) (rw c.as_slice-in-Call.ensures at c.of_call.ensures)

pub of_expr-returns-in-All : goal.of_expr-returns-in-All
of_expr-returns-in-All t c = rw (c.in-All.is, at_All c.args.vars.now c.in-All.parts) (rw c.as_slice-in-All.ensures at c.of_chain.ensures)

pub of_expr-returns-in-Any : goal.of_expr-returns-in-Any
of_expr-returns-in-Any t c = rw (c.in-Any.is, at_Any c.args.vars.now c.in-Any.parts) (rw c.as_slice-in-Any.ensures at c.of_chain-in-Any.ensures)

pub of_expr-returns-in-If : goal.of_expr-returns-in-If
of_expr-returns-in-If t c =
    rw (c.in-If.is, at_If c.args.vars.now c.in-If.branches c.in-If.other) (rw (c.as_slice-in-If.ensures, c.get-in-If.ensures) at c.of_choice.ensures)

pub of_operand-returns-then-level-wanted : goal.of_operand-returns-then-level-wanted
of_operand-returns-then-level-wanted t c =
    enclosed c.args.vars.now c.args.e.now c.args.wanted _ _ _ c.level.ensures c.if-level-wanted.true c.of_expr-inside.ensures c.saturating_add.ensures

pub of_operand-returns-else-level-wanted : goal.of_operand-returns-else-level-wanted
of_operand-returns-else-level-wanted t c =
    alone c.args.vars.now c.args.e.now c.args.wanted _ _ c.level.ensures c.if-level-wanted.false c.of_expr-inside.ensures

pub of_pair-returns : goal.of_pair-returns
of_pair-returns t c = c.add.ensures _ _ (c.add-left.ensures _ _ c.of_operand.ensures c.of_str.ensures) c.of_operand-2.ensures

pub of_call-returns : goal.of_call-returns
of_call-returns t c =
    let name = function_name c.args.function in
    let row = chain_text (codes ", ") 0 (map (printed c.args.vars.now) c.args.args.now) in
    let opens : length (codes "(") ≡ 1 = refl in
    let closes : length (codes ")") ≡ 1 = refl in
    let e = of_four name (codes "(") row (codes ")") in
    counted (length name + 2 + length row) _ (name ++ codes "(" ++ row ++ codes ")") (omega (arith, e, opens, closes))
    (plus _ _ _ _ _ (grown (length name) 2 _ _ c.of_function.ensures c.saturating_add.ensures) c.of_chain-args.ensures c.saturating_add-2.ensures)

pub of_choice-returns : goal.of_choice-returns
of_choice-returns t c =
    let vars = c.args.vars.now in
    let row = branches_text (map (λ branch. (printed vars branch.0, printed vars branch.1)) c.args.branches.now) in
    let other = operand 0 (printed vars c.args.other.now) in
    let mark : length (codes " else ") ≡ 6 = refl in
    let e = around row (codes " else ") other in
    counted (length row + 6 + length other) _ (row ++ codes " else " ++ other) (omega (arith, e, mark))
    (plus _ _ _ _ _ (grown (length row) 6 _ _ c.of_branches-branches.ensures c.saturating_add.ensures) c.of_operand.ensures c.saturating_add-2.ensures)

pub of_terms-loop-term-preserved : goal.of_terms-loop-term-preserved
of_terms-loop-term-preserved t c =
    let vars = c.args.vars.now in
    let term = c.term-item.result in (
      row_more (λ first term. term_mark first term.0 ++ operand 6 term.1) (λ term. (term.0, printed vars term.1)) c.args.terms.now c.loop-term.term-index term c.loop-term.first
          _ _ _ c.loop-term-test.true c.term-item.is c.loop-term.invariant.1 c.loop-term.invariant.0
          (c.add-one.ensures _ _ c.of_term_mark.ensures c.of_operand.ensures) c.saturating_add-all.ensures,
      not_first _,
    )

pub of_factors-loop-factor-preserved : goal.of_factors-loop-factor-preserved
of_factors-loop-factor-preserved t c =
    let vars = c.args.vars.now in
    let factor = c.factor-item.result in (
      row_more (λ first factor. factor_mark first factor.0 ++ operand 7 factor.1) (λ factor. (factor.0, printed vars factor.1)) c.args.factors.now c.loop-factor.factor-index factor c.loop-factor.first
          _ _ _ c.loop-factor-test.true c.factor-item.is c.loop-factor.invariant.1 c.loop-factor.invariant.0
          (c.add-one.ensures _ _ c.of_factor_mark.ensures c.of_operand.ensures) c.saturating_add-all.ensures,
      not_first _,
    )

pub of_chain-loop-part-preserved : goal.of_chain-loop-part-preserved
of_chain-loop-part-preserved t c =
    let vars = c.args.vars.now in
    let part = c.part-item.result in (
      row_more (λ first part. separator c.args.mark.now first ++ operand c.args.wanted part) (printed vars) c.args.parts.now c.loop-part.part-index part c.loop-part.first
          _ _ _ c.loop-part-test.true c.part-item.is c.loop-part.invariant.1 c.loop-part.invariant.0
          (c.add-one.ensures _ _ c.of_separator.ensures c.of_operand.ensures) c.saturating_add-all.ensures,
      not_first _,
    )

pub of_branches-loop-branch-preserved : goal.of_branches-loop-branch-preserved
of_branches-loop-branch-preserved t c =
    let vars = c.args.vars.now in
    let branch = c.branch-item.result in (
      row_more (λ first branch. branch_mark first ++ operand 0 branch.0 ++ codes " then " ++ operand 0 branch.1) (λ branch. (printed vars branch.0, printed vars branch.1)) c.args.branches.now c.loop-branch.branch-index branch c.loop-branch.first
          _ _ _ c.loop-branch-test.true c.branch-item.is c.loop-branch.invariant.1 c.loop-branch.invariant.0
          (c.add-one.ensures _ _ (c.add.ensures _ _ (c.add-condition.ensures _ _ c.of_branch_mark.ensures c.of_operand.ensures) c.of_str.ensures) c.of_operand-in-loop-branch.ensures) c.saturating_add-all.ensures,
      not_first _,
    )
