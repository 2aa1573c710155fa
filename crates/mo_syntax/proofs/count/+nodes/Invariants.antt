-- What was counted so far, and how deep each function goes.
use Rattle.std.proofs.Common.{◌≡◌, ◌+◌, ◌*◌, ◌-◌, ◌^◌, min, sum_by, take}
use Rattle.mo_syntax.specs.Count.{count_of, count_in_argument, count_in_option, count_in_part, count_in_index}
use Rattle.mo_syntax.proofs.count.+nodes.Given as goal

abbrev pub invariant-of_exprs-loop-e : goal.invariant-of_exprs-loop-e
invariant-of_exprs-loop-e l = l.all ≡ min (sum_by count_of (take l.e-index l.items)) (2 ^ 64 - 1)

abbrev pub invariant-of_options-loop-e : goal.invariant-of_options-loop-e
invariant-of_options-loop-e l = l.all ≡ min (sum_by count_in_option (take l.e-index l.items)) (2 ^ 64 - 1)

abbrev pub invariant-of_terms-loop-term : goal.invariant-of_terms-loop-term
invariant-of_terms-loop-term l = l.all ≡ min (sum_by (λ t. count_of t.value) (take l.term-index l.items)) (2 ^ 64 - 1)

abbrev pub invariant-of_factors-loop-factor : goal.invariant-of_factors-loop-factor
invariant-of_factors-loop-factor l = l.all ≡ min (sum_by (λ f. count_of f.value) (take l.factor-index l.items)) (2 ^ 64 - 1)

abbrev pub invariant-of_branches-loop-branch : goal.invariant-of_branches-loop-branch
invariant-of_branches-loop-branch l = l.all ≡ min (sum_by (λ b. count_of b.condition + count_of b.value) (take l.branch-index l.items)) (2 ^ 64 - 1)

abbrev pub invariant-of_parts-loop-part : goal.invariant-of_parts-loop-part
invariant-of_parts-loop-part l = l.all ≡ min (sum_by count_in_part (take l.part-index l.items)) (2 ^ 64 - 1)

abbrev pub invariant-of_iterators-loop-index : goal.invariant-of_iterators-loop-index
invariant-of_iterators-loop-index l = l.all ≡ min (sum_by count_in_index (take l.index-index l.items)) (2 ^ 64 - 1)

abbrev pub invariant-of_rows-loop-row : goal.invariant-of_rows-loop-row
invariant-of_rows-loop-row l = l.all ≡ min (sum_by (λ row. sum_by count_of row) (take l.row-index l.items)) (2 ^ 64 - 1)

abbrev pub invariant-of_plain-loop-argument : goal.invariant-of_plain-loop-argument
invariant-of_plain-loop-argument l = l.all ≡ min (sum_by count_in_argument (take l.argument-index l.items)) (2 ^ 64 - 1)

abbrev pub invariant-of_named-loop-argument : goal.invariant-of_named-loop-argument
invariant-of_named-loop-argument l = l.all ≡ min (sum_by (λ n. count_in_argument n.1) (take l.argument-index l.items)) (2 ^ 64 - 1)

abbrev pub decreases-nodes : goal.decreases-nodes
decreases-nodes l = 9 * goal.size-nodes l + 1

abbrev pub decreases-of_node : goal.decreases-of_node
decreases-of_node l = 9 * goal.size-of_node l + 1

abbrev pub decreases-of_callee : goal.decreases-of_callee
decreases-of_callee l = 9 * goal.size-of_callee l + 6

abbrev pub decreases-of_arguments : goal.decreases-of_arguments
decreases-of_arguments l = 9 * goal.size-of_arguments l + 1

abbrev pub decreases-of_argument : goal.decreases-of_argument
decreases-of_argument l = 9 * goal.size-of_argument l + 1

abbrev pub decreases-of_reference : goal.decreases-of_reference
decreases-of_reference l = 9 * goal.size-of_reference l + 5

abbrev pub decreases-of_option : goal.decreases-of_option
decreases-of_option l = 9 * goal.size-of_option l + 2

abbrev pub decreases-of_exprs : goal.decreases-of_exprs
decreases-of_exprs l = 9 * goal.size-of_exprs l + 3

abbrev pub decreases-of_options : goal.decreases-of_options
decreases-of_options l = 9 * goal.size-of_options l + 3

abbrev pub decreases-of_terms : goal.decreases-of_terms
decreases-of_terms l = 9 * goal.size-of_terms l + 3

abbrev pub decreases-of_factors : goal.decreases-of_factors
decreases-of_factors l = 9 * goal.size-of_factors l + 3

abbrev pub decreases-of_branches : goal.decreases-of_branches
decreases-of_branches l = 9 * goal.size-of_branches l + 3

abbrev pub decreases-of_parts : goal.decreases-of_parts
decreases-of_parts l = 9 * goal.size-of_parts l + 4

abbrev pub decreases-of_iterators : goal.decreases-of_iterators
decreases-of_iterators l = 9 * goal.size-of_iterators l + 4

abbrev pub decreases-of_rows : goal.decreases-of_rows
decreases-of_rows l = 9 * goal.size-of_rows l + 4

abbrev pub decreases-of_plain : goal.decreases-of_plain
decreases-of_plain l = 9 * goal.size-of_plain l + 3

abbrev pub decreases-of_named : goal.decreases-of_named
decreases-of_named l = 9 * goal.size-of_named l + 3
