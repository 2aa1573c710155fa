-- What was put is what stood there, and the variables of the parts so far.
use Rattle.std.proofs.Common.{◌≡◌, ◌+◌, ◌*◌, ◌++◌, flat_map, max, take}
use Rattle.mo_flat.specs.declared.expr.FlatExpr.{size-FlatExpr}
use Rattle.mo_equations.specs.steps.Counting.{variables_in}
use Rattle.mo_equations.proofs.counting.+variables.Given as goal

abbrev pub invariant-put_signed-loop-term : goal.invariant-put_signed-loop-term
invariant-put_signed-loop-term l = l.numbers ≡ l.initial.numbers ++ flat_map (λ term. variables_in term.1) (take l.term-index l.terms)

abbrev pub invariant-put_list-loop-part : goal.invariant-put_list-loop-part
invariant-put_list-loop-part l = l.numbers ≡ l.initial.numbers ++ flat_map variables_in (take l.part-index l.parts)

abbrev pub invariant-put_branches-loop-branch : goal.invariant-put_branches-loop-branch
invariant-put_branches-loop-branch l = l.numbers ≡ l.initial.numbers ++ flat_map (λ branch. variables_in branch.0 ++ variables_in branch.1) (take l.branch-index l.branches)

abbrev pub decreases-put : goal.decreases-put
decreases-put l = 4 * size-FlatExpr l.e.now + 0

abbrev pub decreases-put_two : goal.decreases-put_two
decreases-put_two l = 4 * max (size-FlatExpr l.a.now) (size-FlatExpr l.b.now) + 1

abbrev pub decreases-put_signed : goal.decreases-put_signed
decreases-put_signed l = 4 * goal.size-put_signed l + 1

abbrev pub decreases-put_list : goal.decreases-put_list
decreases-put_list l = 4 * goal.size-put_list l + 1

abbrev pub decreases-put_branches : goal.decreases-put_branches
decreases-put_branches l = 4 * goal.size-put_branches l + 2

abbrev pub decreases-put_choice : goal.decreases-put_choice
decreases-put_choice l = 4 * max (goal.size-put_choice l) (size-FlatExpr l.other.now) + 3
