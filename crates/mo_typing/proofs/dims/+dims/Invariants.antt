use Rattle.std.proofs.Common.{◌≡◌, ◌+◌, ◌*◌, [], max, drop, Ok, None}
use Rattle.mo_flat.specs.declared.array.ArrayExpr.{size-ArrayExpr}
use Rattle.mo_typing.specs.Dims.{part_of, operand, branch_dims, with_operand, added, multiplied, settled, with_alike, with_scalar}
use Rattle.mo_typing.proofs.Gathering.{gathered}
use Rattle.mo_typing.proofs.PartDims.{dims_in, signed_part, branch_part}
use Rattle.mo_typing.proofs.dims.+dims.Given as goal

abbrev pub invariant-of_terms-loop-term : goal.invariant-of_terms-loop-term
invariant-of_terms-loop-term l = gathered signed_part operand (with_operand (added l.place)) settled l.all (drop l.term-index l.terms) ≡ gathered signed_part operand (with_operand (added l.place)) settled (Ok None) l.terms

abbrev pub invariant-of_factors-loop-factor : goal.invariant-of_factors-loop-factor
invariant-of_factors-loop-factor l = gathered signed_part operand (with_operand (multiplied l.place)) settled l.all (drop l.factor-index l.factors) ≡ gathered signed_part operand (with_operand (multiplied l.place)) settled (Ok None) l.factors

abbrev pub invariant-of_elements-loop-part : goal.invariant-of_elements-loop-part
invariant-of_elements-loop-part l = gathered part_of dims_in (with_alike l.place) settled l.all (drop l.part-index l.parts) ≡ gathered part_of dims_in (with_alike l.place) settled (Ok None) l.parts

abbrev pub invariant-of_scalars-loop-part : goal.invariant-of_scalars-loop-part
invariant-of_scalars-loop-part l = gathered part_of dims_in (with_scalar l.place) (λ a. a) l.all (drop l.part-index l.parts) ≡ gathered part_of dims_in (with_scalar l.place) (λ a. a) (Ok []) l.parts

abbrev pub invariant-have_dims-loop-part : goal.invariant-have_dims-loop-part
invariant-have_dims-loop-part l = gathered part_of dims_in (λ s d. s) (λ s. Ok (tt {0})) (tt {0}) (drop l.part-index l.parts) ≡ gathered part_of dims_in (λ s d. s) (λ s. Ok (tt {0})) (tt {0}) l.parts

abbrev pub invariant-of_branches-loop-branch : goal.invariant-of_branches-loop-branch
invariant-of_branches-loop-branch l = gathered branch_part branch_dims (with_alike l.place) (λ s. Ok s) l.all (drop l.branch-index l.branches) ≡ gathered branch_part branch_dims (with_alike l.place) (λ s. Ok s) (Ok None) l.branches

abbrev pub decreases-dims : goal.decreases-dims
decreases-dims l = 4 * goal.size-dims l + 0

abbrev pub decreases-dims_of_node : goal.decreases-dims_of_node
decreases-dims_of_node l = 4 * goal.size-dims_of_node l + 0

abbrev pub decreases-of_terms : goal.decreases-of_terms
decreases-of_terms l = 4 * goal.size-of_terms l + 1

abbrev pub decreases-of_factors : goal.decreases-of_factors
decreases-of_factors l = 4 * goal.size-of_factors l + 1

abbrev pub decreases-of_negation : goal.decreases-of_negation
decreases-of_negation l = 4 * goal.size-of_negation l + 1

abbrev pub decreases-of_scalars : goal.decreases-of_scalars
decreases-of_scalars l = 4 * goal.size-of_scalars l + 1

abbrev pub decreases-of_condition : goal.decreases-of_condition
decreases-of_condition l = 4 * goal.size-of_condition l + 1

abbrev pub decreases-of_branches : goal.decreases-of_branches
decreases-of_branches l = 4 * goal.size-of_branches l + 2

abbrev pub decreases-of_elements : goal.decreases-of_elements
decreases-of_elements l = 4 * goal.size-of_elements l + 1

abbrev pub decreases-of_array : goal.decreases-of_array
decreases-of_array l = 4 * goal.size-of_array l + 2

abbrev pub decreases-have_dims : goal.decreases-have_dims
decreases-have_dims l = 4 * goal.size-have_dims l + 1

abbrev pub decreases-of_call : goal.decreases-of_call
decreases-of_call l = 4 * goal.size-of_call l + 2

abbrev pub decreases-of_size : goal.decreases-of_size
decreases-of_size l = 4 * goal.size-of_size l + 1

abbrev pub decreases-of_filling : goal.decreases-of_filling
decreases-of_filling l = 4 * goal.size-of_filling l + 1

abbrev pub decreases-of_sized : goal.decreases-of_sized
decreases-of_sized l = 4 * goal.size-of_sized l + 2

abbrev pub decreases-of_power : goal.decreases-of_power
decreases-of_power l = 4 * max (size-ArrayExpr l.base.now) (size-ArrayExpr l.exponent.now) + 1

abbrev pub decreases-of_relation : goal.decreases-of_relation
decreases-of_relation l = 4 * max (size-ArrayExpr l.left.now) (size-ArrayExpr l.right.now) + 1

abbrev pub decreases-of_choice : goal.decreases-of_choice
decreases-of_choice l = 4 * max (goal.size-of_choice l) (size-ArrayExpr l.other.now) + 3
