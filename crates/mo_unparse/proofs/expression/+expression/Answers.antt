use Rattle.std.proofs.Common.{[], ◌∷◌, ◌++◌, codes}
use Rattle.std.specs.Prelude.{if◌then◌else◌}
use Rattle.mo_pieces.specs.Pieces.{a_mark, a_name, a_word}
use Rattle.mo_pieces.specs.Gathered.{gathered}
use Rattle.mo_pieces.specs.ShownExpressions.{a_comma, a_semicolon, branch_pieces, branch_word, factor_pieces, index_pieces, named_pieces, operand, output_pieces, part_pieces, pieces_of_arg, pieces_of_expr, row_pieces, shown_expr, spaced, subscript_pieces, term_pieces}
use Rattle.mo_unparse.proofs.Rows.{row_step, not_first, after_name, after_four, after_named}
use Rattle.mo_pieces.proofs.Written.{after_two}
use Rattle.mo_unparse.proofs.ExpressionForms.{args_written, partial_written, array_for_written}
use Rattle.mo_unparse.proofs.expression.+expression.Goals as goal

pub write_chain-loop-e-preserved : goal.write_chain-loop-e-preserved
write_chain-loop-e-preserved t c =
    let e = c.e-item.result in (
      row_step (λ first e. (if first then [] else spaced (a_word c.args.word.now)) ++ operand c.args.wanted (shown_expr e)) c.args.operands.now c.loop-e.e-index e c.loop-e.first
          (gathered c.args.out.now) (gathered c.loop-e.out) (gathered c.write_operand.new.out)
          c.loop-e-test.true c.e-item.is c.loop-e.invariant.1 c.loop-e.invariant.0
          (after_two _ (gathered c.word_between.new.out) _ _ _ c.in_ok-word_between.ensures c.in_ok-write_operand.ensures),
      not_first _,
    )

pub write_factors-loop-factor-preserved : goal.write_factors-loop-factor-preserved
write_factors-loop-factor-preserved t c =
    let factor = c.factor-item.result in (
      row_step (factor_pieces shown_expr) c.args.factors.now c.loop-factor.factor-index factor c.loop-factor.first
          (gathered c.args.out.now) (gathered c.loop-factor.out) (gathered c.write_operand.new.out)
          c.loop-factor-test.true c.factor-item.is c.loop-factor.invariant.1 c.loop-factor.invariant.0
          (after_two _ (gathered c.write_times.new.out) _ _ _ c.in_ok-write_times.ensures c.in_ok-write_operand.ensures),
      not_first _,
    )

pub write_outputs-loop-output-preserved : goal.write_outputs-loop-output-preserved
write_outputs-loop-output-preserved t c =
    let output = c.output-item.result in (
      row_step (λ first e. (if first then [] else a_comma) ++ output_pieces shown_expr e) c.args.outputs.now c.loop-output.output-index output c.loop-output.first
          (gathered c.args.out.now) (gathered c.loop-output.out) (gathered c.write_output.new.out)
          c.loop-output-test.true c.output-item.is c.loop-output.invariant.1 c.loop-output.invariant.0
          (after_two _ (gathered c.separate.new.out) _ _ _ c.in_ok-separate.ensures c.in_ok-write_output.ensures),
      not_first _,
    )

pub write_plain-loop-arg-preserved : goal.write_plain-loop-arg-preserved
write_plain-loop-arg-preserved t c =
    let arg = c.arg-item.result in (
      row_step (λ first a. (if first then [] else a_comma) ++ pieces_of_arg a) c.args.plain.now c.loop-arg.arg-index arg c.loop-arg.first
          (gathered c.args.out.now) (gathered c.loop-arg.out) (gathered c.write_arg.new.out)
          c.loop-arg-test.true c.arg-item.is c.loop-arg.invariant.1 c.loop-arg.invariant.0
          (after_two _ (gathered c.separate.new.out) _ _ _ c.in_ok-separate.ensures c.in_ok-write_arg.ensures),
      not_first _,
    )

pub write_row-loop-e-preserved : goal.write_row-loop-e-preserved
write_row-loop-e-preserved t c =
    let e = c.e-item.result in (
      row_step (λ first e. (if first then [] else a_comma) ++ pieces_of_expr e) c.args.row.now c.loop-e.e-index e c.loop-e.first
          (gathered c.args.out.now) (gathered c.loop-e.out) (gathered c.write_expr.new.out)
          c.loop-e-test.true c.e-item.is c.loop-e.invariant.1 c.loop-e.invariant.0
          (after_two _ (gathered c.separate.new.out) _ _ _ c.in_ok-separate.ensures c.in_ok-write_expr.ensures),
      not_first _,
    )

pub write_rows-loop-row-preserved : goal.write_rows-loop-row-preserved
write_rows-loop-row-preserved t c =
    let row = c.row-item.result in (
      row_step (λ first row. (if first then [] else a_semicolon) ++ row_pieces shown_expr row) c.args.rows.now c.loop-row.row-index row c.loop-row.first
          (gathered c.args.out.now) (gathered c.loop-row.out) (gathered c.write_row.new.out)
          c.loop-row-test.true c.row-item.is c.loop-row.invariant.1 c.loop-row.invariant.0
          (after_two _ (gathered c.separate_rows.new.out) _ _ _ c.in_ok-separate_rows.ensures (rw c.as_slice.ensures at c.in_ok-write_row.ensures)),
      not_first _,
    )

pub write_subscript_list-loop-subscript-preserved : goal.write_subscript_list-loop-subscript-preserved
write_subscript_list-loop-subscript-preserved t c =
    let subscript = c.subscript-item.result in (
      row_step (λ first e. (if first then [] else a_comma) ++ subscript_pieces shown_expr e) c.args.subscripts.now c.loop-subscript.subscript-index subscript c.loop-subscript.first
          (gathered c.args.out.now) (gathered c.loop-subscript.out) (gathered c.write_subscript.new.out)
          c.loop-subscript-test.true c.subscript-item.is c.loop-subscript.invariant.1 c.loop-subscript.invariant.0
          (after_two _ (gathered c.separate.new.out) _ _ _ c.in_ok-separate.ensures c.in_ok-write_subscript.ensures),
      not_first _,
    )

pub write_terms-loop-term-preserved : goal.write_terms-loop-term-preserved
write_terms-loop-term-preserved t c =
    let term = c.term-item.result in (
      row_step (term_pieces shown_expr) c.args.terms.now c.loop-term.term-index term c.loop-term.first
          (gathered c.args.out.now) (gathered c.loop-term.out) (gathered c.write_operand.new.out)
          c.loop-term-test.true c.term-item.is c.loop-term.invariant.1 c.loop-term.invariant.0
          (after_two _ (gathered c.write_sign.new.out) _ _ _ c.in_ok-write_sign.ensures c.in_ok-write_operand.ensures),
      not_first _,
    )

pub write_parts-loop-part-preserved : goal.write_parts-loop-part-preserved
write_parts-loop-part-preserved t c =
    let part = c.part-item.result in (
      row_step (λ first part. (if first then [] else a_mark (codes ".") ∷ []) ++ part_pieces shown_expr part) c.args.parts.now c.loop-part.part-index part c.loop-part.first
          (gathered c.args.out.now) (gathered c.loop-part.out) (gathered c.write_subscripts.new.out)
          c.loop-part-test.true c.part-item.is c.loop-part.invariant.1 c.loop-part.invariant.0
          (after_name _ (gathered c.dot_between.new.out) (gathered c.name.new.self) _ _ _ (a_name part.name)
          c.in_ok-dot_between.ensures (rw c.as_str.ensures at c.in_ok-name.ensures) (rw c.as_slice.ensures at c.in_ok-write_subscripts.ensures)),
      not_first _,
    )

pub write_indices-loop-index-preserved : goal.write_indices-loop-index-preserved
write_indices-loop-index-preserved t c =
    let index = c.index-item.result in (
      row_step (λ first index. (if first then [] else a_comma) ++ index_pieces shown_expr index) c.args.indices.now c.loop-index.index-index index c.loop-index.first
          (gathered c.args.out.now) (gathered c.loop-index.out) (gathered c.write_index_range.new.out)
          c.loop-index-test.true c.index-item.is c.loop-index.invariant.1 c.loop-index.invariant.0
          (after_name _ (gathered c.separate.new.out) (gathered c.name.new.self) _ _ _ (a_name index.name)
          c.in_ok-separate.ensures (rw c.as_str.ensures at c.in_ok-name.ensures) c.in_ok-write_index_range.ensures),
      not_first _,
    )

pub write_named-loop-arg-preserved : goal.write_named-loop-arg-preserved
write_named-loop-arg-preserved t c =
    let arg = c.arg-item.result in (
      row_step (λ first arg. (if first then [] else a_comma) ++ named_pieces pieces_of_arg arg) c.args.named.now c.loop-arg.arg-index arg c.loop-arg.first
          (gathered c.args.out.now) (gathered c.loop-arg.out) (gathered c.write_arg.new.out)
          c.loop-arg-test.true c.arg-item.is c.loop-arg.invariant.1 c.loop-arg.invariant.0
          (after_named _ (gathered c.separate.new.out) (gathered c.name.new.self) (gathered c.spaced_mark.new.out) _ _ _ _ (a_name arg.0)
          c.in_ok-separate.ensures (rw c.as_str.ensures at c.in_ok-name.ensures) c.in_ok-spaced_mark.ensures c.in_ok-write_arg.ensures),
      not_first _,
    )

pub write_branches-loop-branch-preserved : goal.write_branches-loop-branch-preserved
write_branches-loop-branch-preserved t c =
    let branch = c.branch-item.result in (
      row_step (branch_pieces shown_expr) c.args.branches.now c.loop-branch.branch-index branch c.loop-branch.first
          (gathered c.args.out.now) (gathered c.loop-branch.out) (gathered c.write_expr-in-loop-branch.new.out)
          c.loop-branch-test.true c.branch-item.is c.loop-branch.invariant.1 c.loop-branch.invariant.0
          (after_four _ (gathered c.write_branch_word.new.out) (gathered c.write_expr.new.out) (gathered c.spaced_word.new.out) _ (branch_word c.loop-branch.first) _ (spaced (a_word (codes "then"))) _
          c.in_ok-write_branch_word.ensures c.in_ok-write_expr.ensures c.in_ok-spaced_word.ensures c.in_ok-write_expr-2.ensures),
      not_first _,
    )

pub write_args-returns : goal.write_args-returns
write_args-returns t c =
    let plain_empty = rw c.as_slice-plain.ensures at c.is_empty.ensures in
    let named_empty = rw c.as_slice-named.ensures at c.is_empty-2.ensures in
    args_written c.mark-2.result c.args.args.now c.is_empty.result c.is_empty-2.result (gathered c.args.out.now) (gathered c.mark.new.self) (gathered c.write_plain.new.out) (gathered c.comma_between.new.out)
    (gathered c.write_named.new.out) (gathered c.write_iterators.new.out) (gathered c.mark-2.new.self)
    plain_empty named_empty c.in_ok-mark.ensures (rw c.as_slice-plain.ensures at c.in_ok-write_plain.ensures) c.in_ok-comma_between.ensures
    (rw c.as_slice-named.ensures at c.in_ok-write_named.ensures) (rw c.as_slice.ensures at c.in_ok-write_iterators.ensures) c.mark-2.ensures

pub write_arg-returns-in_ok-write_named-in-Partial : goal.write_arg-returns-in_ok-write_named-in-Partial
write_arg-returns-in_ok-write_named-in-Partial t c =
    partial_written c.mark-in-Partial.result c.args.arg.now c.in-Partial.function c.in-Partial.named (gathered c.args.out.now) (gathered c.word.new.self) (gathered c.blank.new.self) (gathered c.write_reference.new.out)
    (gathered c.mark.new.self) (gathered c.write_named.new.out) (gathered c.mark-in-Partial.new.self)
    c.in-Partial.is c.in_ok-word-in-Partial.ensures c.in_ok-blank-in-Partial.ensures c.in_ok-write_reference-in-Partial.ensures c.in_ok-mark-in-Partial.ensures
    (rw c.as_slice.ensures at c.in_ok-write_named-in-Partial.ensures) c.mark-in-Partial.ensures

pub write_node-returns-in_ok-write_iterators-in-ArrayFor : goal.write_node-returns-in_ok-write_iterators-in-ArrayFor
write_node-returns-in_ok-write_iterators-in-ArrayFor t c =
    array_for_written c.mark-in-ArrayFor-2.result c.args.node.now c.in-ArrayFor.e c.in-ArrayFor.iterators (gathered c.args.out.now) (gathered c.mark-in-ArrayFor.new.self) (gathered c.write_expr.new.out)
    (gathered c.write_iterators.new.out) (gathered c.mark-in-ArrayFor-2.new.self)
    c.in-ArrayFor.is c.in_ok-mark-in-ArrayFor.ensures c.in_ok-write_expr-in-ArrayFor.ensures (rw c.as_slice-in-ArrayFor.ensures at c.in_ok-write_iterators-in-ArrayFor.ensures) c.mark-in-ArrayFor-2.ensures
