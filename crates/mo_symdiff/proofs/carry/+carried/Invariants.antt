use Rattle.std.proofs.Common.{◌≡◌, ◌+◌, ◌*◌, max, map, take}
use Rattle.mo_flat.specs.declared.expr.FlatExpr.{size-FlatExpr}
use Rattle.mo_symdiff.specs.Carried.{carried}
use Rattle.mo_symdiff.proofs.carry.+carried.Given as goal

abbrev pub invariant-carried_branches-loop-branch : goal.invariant-carried_branches-loop-branch
invariant-carried_branches-loop-branch l = l.made ≡ map (λ b. (carried l.vars b.0, carried l.vars b.1)) (take l.branch-index l.branches)

abbrev pub invariant-carried_list-loop-part : goal.invariant-carried_list-loop-part
invariant-carried_list-loop-part l = l.made ≡ map (carried l.vars) (take l.part-index l.parts)

abbrev pub invariant-carried_signed-loop-term : goal.invariant-carried_signed-loop-term
invariant-carried_signed-loop-term l = l.made ≡ map (λ t. (t.0, carried l.vars t.1)) (take l.term-index l.terms)

abbrev pub decreases-carried : goal.decreases-carried
decreases-carried l = 4 * goal.size-carried l + 0

abbrev pub decreases-carried_box : goal.decreases-carried_box
decreases-carried_box l = 4 * goal.size-carried_box l + 1

abbrev pub decreases-carried_boxes : goal.decreases-carried_boxes
decreases-carried_boxes l = 4 * max (size-FlatExpr l.left.now) (size-FlatExpr l.right.now) + 2

abbrev pub decreases-carried_list : goal.decreases-carried_list
decreases-carried_list l = 4 * goal.size-carried_list l + 1

abbrev pub decreases-carried_signed : goal.decreases-carried_signed
decreases-carried_signed l = 4 * goal.size-carried_signed l + 1

abbrev pub decreases-carried_branches : goal.decreases-carried_branches
decreases-carried_branches l = 4 * goal.size-carried_branches l + 1

abbrev pub decreases-carried_choice : goal.decreases-carried_choice
decreases-carried_choice l = 4 * max (goal.size-carried_choice l) (size-FlatExpr l.other.now) + 2

abbrev pub decreases-carried_der : goal.decreases-carried_der
decreases-carried_der l = 4 * goal.size-carried_der l + 1

abbrev pub decreases-carried_power : goal.decreases-carried_power
decreases-carried_power l = 4 * max (size-FlatExpr l.base.now) (size-FlatExpr l.exponent.now) + 3

abbrev pub decreases-carried_relation : goal.decreases-carried_relation
decreases-carried_relation l = 4 * max (size-FlatExpr l.left.now) (size-FlatExpr l.right.now) + 3
