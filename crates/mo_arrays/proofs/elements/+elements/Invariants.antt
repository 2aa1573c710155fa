use Rattle.std.proofs.Common.{◌≡◌, ◌+◌, ◌*◌, ◌^◌, ◌∷◌, [], ◌++◌, max, map, flat_map, take, length}
use Rattle.std.specs.Prelude.{slice_get, slice_range}
use Rattle.mo_flat.specs.declared.array.ArrayExpr.{size-ArrayExpr}
use Rattle.mo_typing.specs.Indices.{indices, numbers_to}
use Rattle.mo_arrays.specs.Elements.{element_of, at, plain}
use Rattle.mo_arrays.specs.steps.Parts.{part_of, chain_before, acting, inner_terms_with}
use Rattle.mo_arrays.proofs.elements.+elements.Given as goal

abbrev pub invariant-of_terms-loop-term : goal.invariant-of_terms-loop-term
invariant-of_terms-loop-term l = l.made ≡ map (λ t. (t.0, at (part_of t.2) l.index)) (take l.term-index l.terms)

abbrev pub invariant-of_parts-loop-part : goal.invariant-of_parts-loop-part
invariant-of_parts-loop-part l = l.made ≡ map (λ e. at (part_of e) l.index) (take l.part-index l.parts)

abbrev pub invariant-of_branches-loop-branch : goal.invariant-of_branches-loop-branch
invariant-of_branches-loop-branch l = l.made ≡ map (λ b. (at (part_of b.0) l.index, at (part_of b.1) l.index)) (take l.branch-index l.branches)

abbrev pub invariant-acting-loop-j : goal.invariant-acting-loop-j
invariant-acting-loop-j l = l.made ≡ acting (slice_range l.factors l.from l.j) l.index

abbrev pub invariant-inner_terms-loop-k : goal.invariant-inner_terms-loop-k
invariant-inner_terms-loop-k l = l.made ≡ inner_terms_with (chain_before l.factors l.m) (slice_get l.factors l.m) l.row l.column l.k

abbrev pub invariant-elements_of_rows-loop-k : goal.invariant-elements_of_rows-loop-k
invariant-elements_of_rows-loop-k l = l.made ≡ flat_map (λ k. map (λ i. plain (element_of l.e ((l.begun ++ k ∷ []) ++ i))) (indices l.more)) (numbers_to l.k)

abbrev pub decreases-element_at : goal.decreases-element_at
decreases-element_at l = 2 ^ 70 * goal.size-element_at l + 0

abbrev pub decreases-element_of_node : goal.decreases-element_of_node
decreases-element_of_node l = 2 ^ 70 * goal.size-element_of_node l + 0

abbrev pub decreases-at : goal.decreases-at
decreases-at l = 2 ^ 70 * goal.size-at l + 1

abbrev pub decreases-boxed_at : goal.decreases-boxed_at
decreases-boxed_at l = 2 ^ 70 * goal.size-boxed_at l + 2

abbrev pub decreases-of_terms : goal.decreases-of_terms
decreases-of_terms l = 2 ^ 70 * goal.size-of_terms l + 2

abbrev pub decreases-of_parts : goal.decreases-of_parts
decreases-of_parts l = 2 ^ 70 * goal.size-of_parts l + 2

abbrev pub decreases-of_branches : goal.decreases-of_branches
decreases-of_branches l = 2 ^ 70 * goal.size-of_branches l + 2

abbrev pub decreases-of_array : goal.decreases-of_array
decreases-of_array l = 2 ^ 70 * goal.size-of_array l + 1

abbrev pub decreases-of_sized : goal.decreases-of_sized
decreases-of_sized l = 2 ^ 70 * goal.size-of_sized l + 1

abbrev pub decreases-of_power : goal.decreases-of_power
decreases-of_power l = 2 ^ 70 * max (size-ArrayExpr l.base.now) (size-ArrayExpr l.exponent.now) + 3

abbrev pub decreases-of_relation : goal.decreases-of_relation
decreases-of_relation l = 2 ^ 70 * max (size-ArrayExpr l.left.now) (size-ArrayExpr l.right.now) + 3

abbrev pub decreases-of_cross : goal.decreases-of_cross
decreases-of_cross l = 2 ^ 70 * max (size-ArrayExpr l.a.now) (size-ArrayExpr l.b.now) + 5

abbrev pub decreases-of_cross_at : goal.decreases-of_cross_at
decreases-of_cross_at l = 2 ^ 70 * max (size-ArrayExpr l.a.now) (size-ArrayExpr l.b.now) + 4

abbrev pub decreases-product_at : goal.decreases-product_at
decreases-product_at l = 2 ^ 70 * max (size-ArrayExpr l.a.now) (size-ArrayExpr l.b.now) + 3

abbrev pub decreases-of_choice : goal.decreases-of_choice
decreases-of_choice l = 2 ^ 70 * max (goal.size-of_choice l) (size-ArrayExpr l.other.now) + 3

abbrev pub decreases-acting : goal.decreases-acting
decreases-acting l = 2 ^ 70 * goal.size-acting l + 3

abbrev pub decreases-chain_at : goal.decreases-chain_at
decreases-chain_at l = 2 ^ 70 * goal.size-chain_at l + (8 * l.n + 4)

abbrev pub decreases-inner_term : goal.decreases-inner_term
decreases-inner_term l = 2 ^ 70 * goal.size-inner_term l + (8 * l.m + 5)

abbrev pub decreases-inner_terms : goal.decreases-inner_terms
decreases-inner_terms l = 2 ^ 70 * goal.size-inner_terms l + (8 * l.m + 6)

abbrev pub decreases-inner_product : goal.decreases-inner_product
decreases-inner_product l = 2 ^ 70 * goal.size-inner_product l + (8 * l.m + 7)

abbrev pub decreases-elements_below : goal.decreases-elements_below
decreases-elements_below l = 2 ^ 70 * goal.size-elements_below l + (8 * length l.dims.now + 2)

abbrev pub decreases-elements_of_rows : goal.decreases-elements_of_rows
decreases-elements_of_rows l = 2 ^ 70 * goal.size-elements_of_rows l + (8 * length l.more.now + 3)

abbrev pub decreases-all_elements : goal.decreases-all_elements
decreases-all_elements l = 2 ^ 70 * goal.size-all_elements l + 2 ^ 68

abbrev pub decreases-of_call_of_one : goal.decreases-of_call_of_one
decreases-of_call_of_one l = 2 ^ 70 * goal.size-of_call_of_one l + (2 ^ 68 + 1)

abbrev pub decreases-of_call : goal.decreases-of_call
decreases-of_call l = 2 ^ 70 * goal.size-of_call l + (2 ^ 68 + 6)
