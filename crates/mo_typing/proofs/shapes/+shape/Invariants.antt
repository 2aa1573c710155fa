use Rattle.std.proofs.Common.{◌≡◌, ◌+◌, ◌*◌, max, map, fold, drop, None}
use Rattle.mo_flat.specs.declared.array.ArrayExpr.{size-ArrayExpr}
use Rattle.mo_typing.specs.Shape.{added, multiplied, operand}
use Rattle.mo_typing.proofs.shapes.+shape.Given as goal

abbrev pub invariant-of_terms-loop-term : goal.invariant-of_terms-loop-term
invariant-of_terms-loop-term l = fold added l.all (map operand (drop l.term-index l.terms)) ≡ fold added None (map operand l.terms)

abbrev pub invariant-of_factors-loop-factor : goal.invariant-of_factors-loop-factor
invariant-of_factors-loop-factor l = fold multiplied l.all (map operand (drop l.factor-index l.factors)) ≡ fold multiplied None (map operand l.factors)

abbrev pub decreases-shape : goal.decreases-shape
decreases-shape l = 4 * goal.size-shape l + 0

abbrev pub decreases-shape_of_node : goal.decreases-shape_of_node
decreases-shape_of_node l = 4 * goal.size-shape_of_node l + 0

abbrev pub decreases-with_term : goal.decreases-with_term
decreases-with_term l = 4 * goal.size-with_term l + 1

abbrev pub decreases-of_terms : goal.decreases-of_terms
decreases-of_terms l = 4 * goal.size-of_terms l + 2

abbrev pub decreases-with_factor : goal.decreases-with_factor
decreases-with_factor l = 4 * goal.size-with_factor l + 1

abbrev pub decreases-of_factors : goal.decreases-of_factors
decreases-of_factors l = 4 * goal.size-of_factors l + 2

abbrev pub decreases-of_first : goal.decreases-of_first
decreases-of_first l = 4 * goal.size-of_first l + 1

abbrev pub decreases-of_call : goal.decreases-of_call
decreases-of_call l = 4 * goal.size-of_call l + 2

abbrev pub decreases-of_array : goal.decreases-of_array
decreases-of_array l = 4 * goal.size-of_array l + 2

abbrev pub decreases-of_size : goal.decreases-of_size
decreases-of_size l = 4 * goal.size-of_size l + 1

abbrev pub decreases-of_power : goal.decreases-of_power
decreases-of_power l = 4 * max (size-ArrayExpr l.base.now) (size-ArrayExpr l.exponent.now) + 1
