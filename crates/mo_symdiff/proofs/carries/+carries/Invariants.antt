use Rattle.std.proofs.Common.{◌≡◌, ◌+◌, ◌*◌, true, max, take}
use Rattle.std.specs.Prelude.{◌&&◌}
use Rattle.std.specs.List.{list_all}
use Rattle.mo_flat.specs.declared.expr.FlatExpr.{size-FlatExpr}
use Rattle.mo_symdiff.specs.Carried.{carries}
use Rattle.mo_symdiff.proofs.carries.+carries.Given as goal

abbrev pub invariant-all_carry-loop-part : goal.invariant-all_carry-loop-part
invariant-all_carry-loop-part l = list_all (carries l.vars) (take l.part-index l.parts) ≡ true

abbrev pub invariant-all_signed_carry-loop-term : goal.invariant-all_signed_carry-loop-term
invariant-all_signed_carry-loop-term l = list_all (λ t. carries l.vars t.1) (take l.term-index l.terms) ≡ true

abbrev pub invariant-all_branches_carry-loop-branch : goal.invariant-all_branches_carry-loop-branch
invariant-all_branches_carry-loop-branch l = list_all (λ b. carries l.vars b.0 && carries l.vars b.1) (take l.branch-index l.branches) ≡ true

abbrev pub decreases-carries : goal.decreases-carries
decreases-carries l = 6 * goal.size-carries l + 0

abbrev pub decreases-derivative_carries : goal.decreases-derivative_carries
decreases-derivative_carries l = 6 * goal.size-derivative_carries l + 1

abbrev pub decreases-both_carry : goal.decreases-both_carry
decreases-both_carry l = 6 * max (size-FlatExpr l.left.now) (size-FlatExpr l.right.now) + 1

abbrev pub decreases-all_carry : goal.decreases-all_carry
decreases-all_carry l = 6 * goal.size-all_carry l + 2

abbrev pub decreases-all_signed_carry : goal.decreases-all_signed_carry
decreases-all_signed_carry l = 6 * goal.size-all_signed_carry l + 2

abbrev pub decreases-all_branches_carry : goal.decreases-all_branches_carry
decreases-all_branches_carry l = 6 * goal.size-all_branches_carry l + 2

abbrev pub decreases-choice_carries : goal.decreases-choice_carries
decreases-choice_carries l = 6 * max (goal.size-choice_carries l) (size-FlatExpr l.other.now) + 3
