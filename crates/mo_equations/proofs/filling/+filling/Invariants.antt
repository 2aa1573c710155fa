-- What was made, and what comes of the parts that are left, is what comes of all.
use Rattle.std.proofs.Common.{◌≡◌, ◌+◌, ◌*◌, max}
use Rattle.mo_flat.specs.declared.expr.FlatExpr.{size-FlatExpr}
use Rattle.mo_typing.specs.Outcome.{each}
use Rattle.mo_equations.specs.Replacing.{with_variables}
use Rattle.mo_equations.specs.steps.Filling.{branch_with, built_at, signed_with}
use Rattle.mo_equations.proofs.Eaching.{Left}
use Rattle.mo_equations.proofs.filling.+filling.Given as goal

abbrev pub invariant-filled_signed-loop-term : goal.invariant-filled_signed-loop-term
invariant-filled_signed-loop-term l = Left (signed_with (built_at l.replaced)) l.terms l.term-index l.made ≡ each (signed_with (built_at l.replaced)) l.terms

abbrev pub invariant-filled_list-loop-part : goal.invariant-filled_list-loop-part
invariant-filled_list-loop-part l = Left (with_variables (built_at l.replaced)) l.parts l.part-index l.made ≡ each (with_variables (built_at l.replaced)) l.parts

abbrev pub invariant-filled_branches-loop-branch : goal.invariant-filled_branches-loop-branch
invariant-filled_branches-loop-branch l = Left (branch_with (built_at l.replaced)) l.branches l.branch-index l.made ≡ each (branch_with (built_at l.replaced)) l.branches

abbrev pub decreases-filled : goal.decreases-filled
decreases-filled l = 8 * size-FlatExpr l.e.now + 0

abbrev pub decreases-filled_box : goal.decreases-filled_box
decreases-filled_box l = 8 * size-FlatExpr l.e.now + 1

abbrev pub decreases-filled_boxes : goal.decreases-filled_boxes
decreases-filled_boxes l = 8 * max (size-FlatExpr l.a.now) (size-FlatExpr l.b.now) + 2

abbrev pub decreases-filled_term : goal.decreases-filled_term
decreases-filled_term l = 8 * goal.size-filled_term l + 1

abbrev pub decreases-filled_signed : goal.decreases-filled_signed
decreases-filled_signed l = 8 * goal.size-filled_signed l + 2

abbrev pub decreases-filled_list : goal.decreases-filled_list
decreases-filled_list l = 8 * goal.size-filled_list l + 2

abbrev pub decreases-filled_branch : goal.decreases-filled_branch
decreases-filled_branch l = 8 * goal.size-filled_branch l + 1

abbrev pub decreases-filled_branches : goal.decreases-filled_branches
decreases-filled_branches l = 8 * goal.size-filled_branches l + 2

abbrev pub decreases-filled_choice : goal.decreases-filled_choice
decreases-filled_choice l = 8 * max (goal.size-filled_choice l) (size-FlatExpr l.other.now) + 3
