-- The elements so far are the same, and each call is on a part.
use Rattle.std.proofs.Common.{◌≡◌, ◌+◌, ◌*◌, take}
use Rattle.mo_same.proofs.+same.Given as goal

abbrev pub invariant-are_same-loop-k : goal.invariant-are_same-loop-k
invariant-are_same-loop-k l = take l.k l.a ≡ take l.k l.b

abbrev pub invariant-are_same_arguments-loop-k : goal.invariant-are_same_arguments-loop-k
invariant-are_same_arguments-loop-k l = take l.k l.a ≡ take l.k l.b

abbrev pub invariant-are_same_factors-loop-k : goal.invariant-are_same_factors-loop-k
invariant-are_same_factors-loop-k l = take l.k l.a ≡ take l.k l.b

abbrev pub invariant-are_same_options-loop-k : goal.invariant-are_same_options-loop-k
invariant-are_same_options-loop-k l = take l.k l.a ≡ take l.k l.b

abbrev pub invariant-are_same_parts-loop-k : goal.invariant-are_same_parts-loop-k
invariant-are_same_parts-loop-k l = take l.k l.a ≡ take l.k l.b

abbrev pub invariant-are_same_terms-loop-k : goal.invariant-are_same_terms-loop-k
invariant-are_same_terms-loop-k l = take l.k l.a ≡ take l.k l.b

abbrev pub decreases-is_same : goal.decreases-is_same
decreases-is_same l = 8 * goal.size-is_same l + 0

abbrev pub decreases-is_same_node : goal.decreases-is_same_node
decreases-is_same_node l = 8 * goal.size-is_same_node l + 7

abbrev pub decreases-is_same_callee : goal.decreases-is_same_callee
decreases-is_same_callee l = 8 * goal.size-is_same_callee l + 6

abbrev pub decreases-is_same_reference : goal.decreases-is_same_reference
decreases-is_same_reference l = 8 * goal.size-is_same_reference l + 5

abbrev pub decreases-are_same_parts : goal.decreases-are_same_parts
decreases-are_same_parts l = 8 * goal.size-are_same_parts l + 4

abbrev pub decreases-is_same_part : goal.decreases-is_same_part
decreases-is_same_part l = 8 * goal.size-is_same_part l + 3

abbrev pub decreases-are_same_options : goal.decreases-are_same_options
decreases-are_same_options l = 8 * goal.size-are_same_options l + 2

abbrev pub decreases-is_same_option : goal.decreases-is_same_option
decreases-is_same_option l = 8 * goal.size-is_same_option l + 1

abbrev pub decreases-are_same_plain : goal.decreases-are_same_plain
decreases-are_same_plain l = 8 * goal.size-are_same_plain l + 6

abbrev pub decreases-are_same_arguments : goal.decreases-are_same_arguments
decreases-are_same_arguments l = 8 * goal.size-are_same_arguments l + 5

abbrev pub decreases-is_same_argument : goal.decreases-is_same_argument
decreases-is_same_argument l = 8 * goal.size-is_same_argument l + 4

abbrev pub decreases-are_same_terms : goal.decreases-are_same_terms
decreases-are_same_terms l = 8 * goal.size-are_same_terms l + 2

abbrev pub decreases-is_same_term : goal.decreases-is_same_term
decreases-is_same_term l = 8 * goal.size-is_same_term l + 1

abbrev pub decreases-are_same_factors : goal.decreases-are_same_factors
decreases-are_same_factors l = 8 * goal.size-are_same_factors l + 2

abbrev pub decreases-is_same_factor : goal.decreases-is_same_factor
decreases-is_same_factor l = 8 * goal.size-is_same_factor l + 1

abbrev pub decreases-are_same : goal.decreases-are_same
decreases-are_same l = 8 * goal.size-are_same l + 1
