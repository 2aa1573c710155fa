use Rattle.std.proofs.Common.{◌≡◌, ◌+◌, ◌*◌, ◌++◌, [], max, map, take, drop}
use Rattle.std.specs.List.{list_all}
use Rattle.mo_flat.specs.declared.expr.FlatExpr.{size-FlatExpr}
use Rattle.mo_symdiff.specs.Derivative.{derived, moving_terms, product_terms, with_slopes}
use Rattle.mo_symdiff.specs.Still.{is_still}
use Rattle.mo_symdiff.proofs.derive.+slope.Given as goal

abbrev pub invariant-terms_of_sum-loop-term : goal.invariant-terms_of_sum-loop-term
invariant-terms_of_sum-loop-term l =
    (l.still ≡ list_all (λ t. is_still l.vars t.1) (take l.term-index l.terms))
    × (l.made ≡ moving_terms l.vars (with_slopes l.vars (take l.term-index l.terms)))

abbrev pub invariant-terms_of_product-loop-i : goal.invariant-terms_of_product-loop-i
invariant-terms_of_product-loop-i l =
    (l.still ≡ list_all (λ t. is_still l.vars t.1) (take l.i l.factors))
    × (l.made ++ product_terms l.vars (take l.i l.factors) (with_slopes l.vars (drop l.i l.factors)) ≡ product_terms l.vars [] (with_slopes l.vars l.factors))

abbrev pub invariant-slopes_of_parts-loop-part : goal.invariant-slopes_of_parts-loop-part
invariant-slopes_of_parts-loop-part l =
    (l.still ≡ list_all (is_still l.vars) (take l.part-index l.parts))
    × (l.made ≡ map (derived l.vars) (take l.part-index l.parts))

abbrev pub invariant-slopes_of_values-loop-branch : goal.invariant-slopes_of_values-loop-branch
invariant-slopes_of_values-loop-branch l =
    (l.still ≡ list_all (λ b. is_still l.vars b.1) (take l.branch-index l.branches))
    × (l.made ≡ map (λ b. (b.0, derived l.vars b.1)) (take l.branch-index l.branches))

abbrev pub decreases-slope : goal.decreases-slope
decreases-slope l = 4 * goal.size-slope l + 0

abbrev pub decreases-of_der : goal.decreases-of_der
decreases-of_der l = 4 * goal.size-of_der l + 1

abbrev pub decreases-of_not : goal.decreases-of_not
decreases-of_not l = 4 * goal.size-of_not l + 1

abbrev pub decreases-terms_of_sum : goal.decreases-terms_of_sum
decreases-terms_of_sum l = 4 * goal.size-terms_of_sum l + 1

abbrev pub decreases-terms_of_product : goal.decreases-terms_of_product
decreases-terms_of_product l = 4 * goal.size-terms_of_product l + 1

abbrev pub decreases-slopes_of_parts : goal.decreases-slopes_of_parts
decreases-slopes_of_parts l = 4 * goal.size-slopes_of_parts l + 1

abbrev pub decreases-slopes_of_values : goal.decreases-slopes_of_values
decreases-slopes_of_values l = 4 * goal.size-slopes_of_values l + 1

abbrev pub decreases-of_sum : goal.decreases-of_sum
decreases-of_sum l = 4 * goal.size-of_sum l + 2

abbrev pub decreases-of_product : goal.decreases-of_product
decreases-of_product l = 4 * goal.size-of_product l + 2

abbrev pub decreases-of_call : goal.decreases-of_call
decreases-of_call l = 4 * goal.size-of_call l + 2

abbrev pub decreases-of_all : goal.decreases-of_all
decreases-of_all l = 4 * goal.size-of_all l + 2

abbrev pub decreases-of_any : goal.decreases-of_any
decreases-of_any l = 4 * goal.size-of_any l + 2

abbrev pub decreases-of_power : goal.decreases-of_power
decreases-of_power l = 4 * max (size-FlatExpr l.base.now) (size-FlatExpr l.exponent.now) + 1

abbrev pub decreases-of_relation : goal.decreases-of_relation
decreases-of_relation l = 4 * max (size-FlatExpr l.left.now) (size-FlatExpr l.right.now) + 1

abbrev pub decreases-of_if : goal.decreases-of_if
decreases-of_if l = 4 * max (goal.size-of_if l) (size-FlatExpr l.other.now) + 2
