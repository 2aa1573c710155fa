use Rattle.std.proofs.Common.{◌≡◌, ◌+◌, ◌*◌, max, take}
use Rattle.mo_flat.specs.declared.expr.FlatExpr.{size-FlatExpr}
use Rattle.mo_flat.proofs.copy.+copied.Given as goal

abbrev pub invariant-copied_branches-loop-branch : goal.invariant-copied_branches-loop-branch
invariant-copied_branches-loop-branch l = l.made ≡ take l.branch-index l.branches

abbrev pub invariant-copied_list-loop-part : goal.invariant-copied_list-loop-part
invariant-copied_list-loop-part l = l.made ≡ take l.part-index l.parts

abbrev pub invariant-copied_signed-loop-term : goal.invariant-copied_signed-loop-term
invariant-copied_signed-loop-term l = l.made ≡ take l.term-index l.terms

abbrev pub decreases-copied : goal.decreases-copied
decreases-copied l = 4 * goal.size-copied l + 0

abbrev pub decreases-copied_box : goal.decreases-copied_box
decreases-copied_box l = 4 * goal.size-copied_box l + 1

abbrev pub decreases-copied_boxes : goal.decreases-copied_boxes
decreases-copied_boxes l = 4 * max (size-FlatExpr l.a.now) (size-FlatExpr l.b.now) + 2

abbrev pub decreases-copied_choice : goal.decreases-copied_choice
decreases-copied_choice l = 4 * max (goal.size-copied_choice l) (size-FlatExpr l.other.now) + 2

abbrev pub decreases-copied_signed : goal.decreases-copied_signed
decreases-copied_signed l = 4 * goal.size-copied_signed l + 1

abbrev pub decreases-copied_list : goal.decreases-copied_list
decreases-copied_list l = 4 * goal.size-copied_list l + 1

abbrev pub decreases-copied_branches : goal.decreases-copied_branches
decreases-copied_branches l = 4 * goal.size-copied_branches l + 1
