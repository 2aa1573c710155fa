use Rattle.std.proofs.Common.{◌+◌, ◌*◌, [], max, take}
use Rattle.mo_flat.specs.declared.expr.FlatExpr.{size-FlatExpr}
use Rattle.mo_symdiff.specs.Derivative.{moving_terms, product_terms, with_slopes}
use Rattle.mo_symdiff.specs.Weights.{AreBranchSizes, AreSizes, AreTermSizes}
use Rattle.mo_symdiff.proofs.sizes.+size.Given as goal

abbrev pub invariant-of_parts-loop-part : goal.invariant-of_parts-loop-part
invariant-of_parts-loop-part l = AreSizes l.vars l.measure (take l.part-index l.parts) l.all.still l.all.whole l.all.slope

abbrev pub invariant-of_branches-loop-branch : goal.invariant-of_branches-loop-branch
invariant-of_branches-loop-branch l = AreBranchSizes l.vars l.measure (take l.branch-index l.branches) l.all.still l.all.whole l.all.slope

abbrev pub invariant-of_all_terms-loop-term : goal.invariant-of_all_terms-loop-term
invariant-of_all_terms-loop-term l =
    AreTermSizes l.vars l.measure (take l.term-index l.terms) (moving_terms l.vars (with_slopes l.vars (take l.term-index l.terms))) l.all.still l.all.minus l.all.whole l.all.slope l.all.moving

abbrev pub invariant-of_all_factors-loop-factor : goal.invariant-of_all_factors-loop-factor
invariant-of_all_factors-loop-factor l =
    AreTermSizes l.vars l.measure (take l.factor-index l.factors) (product_terms l.vars [] (with_slopes l.vars (take l.factor-index l.factors))) l.all.still l.all.minus l.all.whole l.all.slope l.all.moving

abbrev pub decreases-size_of : goal.decreases-size_of
decreases-size_of l = 4 * goal.size-size_of l + 0

abbrev pub decreases-of_der : goal.decreases-of_der
decreases-of_der l = 4 * goal.size-of_der l + 1

abbrev pub decreases-of_not : goal.decreases-of_not
decreases-of_not l = 4 * goal.size-of_not l + 1

abbrev pub decreases-of_parts : goal.decreases-of_parts
decreases-of_parts l = 4 * goal.size-of_parts l + 1

abbrev pub decreases-of_branches : goal.decreases-of_branches
decreases-of_branches l = 4 * goal.size-of_branches l + 1

abbrev pub decreases-of_all_terms : goal.decreases-of_all_terms
decreases-of_all_terms l = 4 * goal.size-of_all_terms l + 1

abbrev pub decreases-of_all_factors : goal.decreases-of_all_factors
decreases-of_all_factors l = 4 * goal.size-of_all_factors l + 1

abbrev pub decreases-of_sum : goal.decreases-of_sum
decreases-of_sum l = 4 * goal.size-of_sum l + 2

abbrev pub decreases-of_product : goal.decreases-of_product
decreases-of_product l = 4 * goal.size-of_product l + 2

abbrev pub decreases-of_call : goal.decreases-of_call
decreases-of_call l = 4 * goal.size-of_call l + 2

abbrev pub decreases-of_all : goal.decreases-of_all
decreases-of_all l = 4 * goal.size-of_all l + 2

abbrev pub decreases-of_any : goal.decreases-of_any
decreases-of_any l = 4 * goal.size-of_any l + 2

abbrev pub decreases-of_power : goal.decreases-of_power
decreases-of_power l = 4 * max (size-FlatExpr l.base.now) (size-FlatExpr l.exponent.now) + 1

abbrev pub decreases-of_relation : goal.decreases-of_relation
decreases-of_relation l = 4 * max (size-FlatExpr l.left.now) (size-FlatExpr l.right.now) + 1

abbrev pub decreases-of_if : goal.decreases-of_if
decreases-of_if l = 4 * max (goal.size-of_if l) (size-FlatExpr l.other.now) + 2
