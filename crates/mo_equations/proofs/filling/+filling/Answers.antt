-- Each part in turn.
use Rattle.std.proofs.Common.{Bool, List, Ok, ap, sym, ◌∙◌}
use Rattle.mo_flat.specs.declared.expr.FlatExpr.{FlatExpr}
use Rattle.mo_flat.specs.declared.expr.FlatExpr as flat
use Rattle.mo_equations.specs.Replacing.{with_variables}
use Rattle.mo_equations.specs.steps.Filling.{branch_with, built_at, signed_with}
use Rattle.mo_equations.proofs.Eaching.{left_start, left_more, left_end}
use Rattle.mo_equations.proofs.Making.{if_ok}
use Rattle.mo_syntax.specs.Outcome.{Outcome, and_then}
use Rattle.mo_equations.proofs.Filled as at
use Rattle.mo_equations.proofs.filling.+filling.Goals as goal

pub filled_signed-loop-term-init : goal.filled_signed-loop-term-init
filled_signed-loop-term-init t c = rw c.new-made.ensures (left_start (signed_with (built_at c.args.replaced.now)) c.args.terms.now)

pub filled_signed-loop-term-preserved : goal.filled_signed-loop-term-preserved
filled_signed-loop-term-preserved t c =
    rw c.in_ok-push.ensures.ok
    (left_more (signed_with (built_at c.args.replaced.now)) c.args.terms.now c.loop-term.term-index c.loop-term.made c.term-item.result _ c.loop-term-test.true c.term-item.is c.in_ok-filled_term.ensures
    ∙ c.loop-term.invariant)

pub filled_signed-returns : goal.filled_signed-returns
filled_signed-returns t c = sym c.loop-term.invariant ∙ left_end (signed_with (built_at c.args.replaced.now)) c.args.terms.now c.loop-term.term-index c.loop-term.made c.loop-term-test.false

pub filled_list-loop-part-init : goal.filled_list-loop-part-init
filled_list-loop-part-init t c = rw c.new-made.ensures (left_start (with_variables (built_at c.args.replaced.now)) c.args.parts.now)

pub filled_list-loop-part-preserved : goal.filled_list-loop-part-preserved
filled_list-loop-part-preserved t c =
    rw c.in_ok-push.ensures.ok
    (left_more (with_variables (built_at c.args.replaced.now)) c.args.parts.now c.loop-part.part-index c.loop-part.made c.part-item.result _ c.loop-part-test.true c.part-item.is c.in_ok-filled.ensures
    ∙ c.loop-part.invariant)

pub filled_list-returns : goal.filled_list-returns
filled_list-returns t c = sym c.loop-part.invariant ∙ left_end (with_variables (built_at c.args.replaced.now)) c.args.parts.now c.loop-part.part-index c.loop-part.made c.loop-part-test.false

pub filled_branches-loop-branch-init : goal.filled_branches-loop-branch-init
filled_branches-loop-branch-init t c = rw c.new-made.ensures (left_start (branch_with (built_at c.args.replaced.now)) c.args.branches.now)

pub filled_branches-loop-branch-preserved : goal.filled_branches-loop-branch-preserved
filled_branches-loop-branch-preserved t c =
    rw c.in_ok-push.ensures.ok
    (left_more (branch_with (built_at c.args.replaced.now)) c.args.branches.now c.loop-branch.branch-index c.loop-branch.made c.branch-item.result _ c.loop-branch-test.true c.branch-item.is c.in_ok-filled_branch.ensures
    ∙ c.loop-branch.invariant)

pub filled_branches-returns : goal.filled_branches-returns
filled_branches-returns t c = sym c.loop-branch.invariant ∙ left_end (branch_with (built_at c.args.replaced.now)) c.args.branches.now c.loop-branch.branch-index c.loop-branch.made c.loop-branch-test.false

pub filled-returns-in_ok-filled_signed-in-Sum : goal.filled-returns-in_ok-filled_signed-in-Sum
filled-returns-in_ok-filled_signed-in-Sum t c =
    let replace = built_at c.args.replaced.now in
    ap (with_variables replace) c.in-Sum.is
    ∙ (at.at_Sum replace c.in-Sum.terms ∙ ap (λ (o : Outcome (List (Bool × FlatExpr))). and_then o (λ parts. Ok (flat.Sum parts))) (rw c.as_slice.ensures at c.in_ok-filled_signed-in-Sum.ensures))

pub filled-returns-in_ok-filled_signed-in-Product : goal.filled-returns-in_ok-filled_signed-in-Product
filled-returns-in_ok-filled_signed-in-Product t c =
    let replace = built_at c.args.replaced.now in
    ap (with_variables replace) c.in-Product.is
    ∙ (at.at_Product replace c.in-Product.factors ∙ ap (λ (o : Outcome (List (Bool × FlatExpr))). and_then o (λ parts. Ok (flat.Product parts))) (rw c.as_slice-in-Product.ensures at c.in_ok-filled_signed-in-Product.ensures))

pub filled-returns-in_ok-filled_list-in-Call : goal.filled-returns-in_ok-filled_list-in-Call
filled-returns-in_ok-filled_list-in-Call t c =
    let replace = built_at c.args.replaced.now in
    ap (with_variables replace) c.in-Call.is
    ∙ (at.at_Call replace c.in-Call.function c.in-Call.args ∙ ap (λ (o : Outcome (List FlatExpr)). and_then o (λ parts. Ok (flat.Call c.in-Call.function parts))) (rw c.as_slice-in-Call.ensures at c.in_ok-filled_list-in-Call.ensures))

pub filled-returns-in_ok-filled_list-in-All : goal.filled-returns-in_ok-filled_list-in-All
filled-returns-in_ok-filled_list-in-All t c =
    let replace = built_at c.args.replaced.now in
    ap (with_variables replace) c.in-All.is
    ∙ (at.at_All replace c.in-All.parts ∙ ap (λ (o : Outcome (List FlatExpr)). and_then o (λ parts. Ok (flat.All parts))) (rw c.as_slice-in-All.ensures at c.in_ok-filled_list-in-All.ensures))

pub filled-returns-in_ok-filled_list-in-Any : goal.filled-returns-in_ok-filled_list-in-Any
filled-returns-in_ok-filled_list-in-Any t c =
    let replace = built_at c.args.replaced.now in
    ap (with_variables replace) c.in-Any.is
    ∙ (at.at_Any replace c.in-Any.parts ∙ ap (λ (o : Outcome (List FlatExpr)). and_then o (λ parts. Ok (flat.Any parts))) (rw c.as_slice-in-Any.ensures at c.in_ok-filled_list-in-Any.ensures))

pub filled-returns-in-If : goal.filled-returns-in-If
filled-returns-in-If t c =
    let replace = built_at c.args.replaced.now in
    if_ok c.filled_choice.result
    (λ made h. ap (with_variables replace) c.in-If.is ∙ (at.at_If replace c.in-If.branches c.in-If.other ∙ h))
    (rw (c.as_slice-in-If.ensures, c.get-in-If.ensures) at c.filled_choice.ensures)
