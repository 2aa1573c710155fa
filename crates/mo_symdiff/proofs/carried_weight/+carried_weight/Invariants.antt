use Rattle.std.proofs.Common.{◌≡◌, ◌+◌, ◌*◌, max, take}
use Rattle.std.specs.Prelude.{sum_by}
use Rattle.mo_flat.specs.declared.expr.FlatExpr.{size-FlatExpr}
use Rattle.mo_symdiff.specs.Carried.{carried}
use Rattle.mo_symdiff.specs.Weights.{capped, node_weight, weigh}
use Rattle.mo_symdiff.proofs.carried_weight.+carried_weight.Given as goal

abbrev pub invariant-list_weight-loop-part : goal.invariant-list_weight-loop-part
invariant-list_weight-loop-part l = l.all ≡ capped (node_weight l.measure + sum_by (λ part. weigh l.vars l.measure (carried l.vars part)) (take l.part-index l.parts))

abbrev pub invariant-signed_weight-loop-term : goal.invariant-signed_weight-loop-term
invariant-signed_weight-loop-term l = l.all ≡ capped (node_weight l.measure + sum_by (λ term. weigh l.vars l.measure (carried l.vars term.1)) (take l.term-index l.terms))

abbrev pub invariant-branches_weight-loop-branch : goal.invariant-branches_weight-loop-branch
invariant-branches_weight-loop-branch l =
    l.all ≡ capped (node_weight l.measure + sum_by (λ branch. weigh l.vars l.measure (carried l.vars branch.0) + weigh l.vars l.measure (carried l.vars branch.1)) (take l.branch-index l.branches))

abbrev pub decreases-carried_weight : goal.decreases-carried_weight
decreases-carried_weight l = 4 * goal.size-carried_weight l + 0

abbrev pub decreases-inner_weight : goal.decreases-inner_weight
decreases-inner_weight l = 4 * goal.size-inner_weight l + 1

abbrev pub decreases-pair_weight : goal.decreases-pair_weight
decreases-pair_weight l = 4 * max (size-FlatExpr l.left.now) (size-FlatExpr l.right.now) + 1

abbrev pub decreases-list_weight : goal.decreases-list_weight
decreases-list_weight l = 4 * goal.size-list_weight l + 1

abbrev pub decreases-signed_weight : goal.decreases-signed_weight
decreases-signed_weight l = 4 * goal.size-signed_weight l + 1

abbrev pub decreases-branches_weight : goal.decreases-branches_weight
decreases-branches_weight l = 4 * goal.size-branches_weight l + 1

abbrev pub decreases-choice_weight : goal.decreases-choice_weight
decreases-choice_weight l = 4 * max (goal.size-choice_weight l) (size-FlatExpr l.other.now) + 2
