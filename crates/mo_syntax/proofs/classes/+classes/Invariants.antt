-- What was counted so far, and how deep each function goes.
use Rattle.std.proofs.Common.{◌≡◌, ◌+◌, ◌*◌, ◌-◌, ◌^◌, min, sum_by, take}
use Rattle.mo_syntax.specs.steps.Parts.{classes_in_give, classes_in_item}
use Rattle.mo_syntax.proofs.classes.+classes.Given as goal

abbrev pub invariant-of_items-loop-item : goal.invariant-of_items-loop-item
invariant-of_items-loop-item l = l.all ≡ min (sum_by classes_in_item (take l.item-index l.items)) (2 ^ 32 - 1)

abbrev pub invariant-of_arguments-loop-argument : goal.invariant-of_arguments-loop-argument
invariant-of_arguments-loop-argument l = l.all ≡ min (sum_by (λ argument. classes_in_give argument.give) (take l.argument-index l.arguments)) (2 ^ 32 - 1)

abbrev pub decreases-of_body : goal.decreases-of_body
decreases-of_body l = 9 * goal.size-of_body l + 1

abbrev pub decreases-of_item : goal.decreases-of_item
decreases-of_item l = 9 * goal.size-of_item l + 1

abbrev pub decreases-of_element : goal.decreases-of_element
decreases-of_element l = 9 * goal.size-of_element l + 1

abbrev pub decreases-of_what : goal.decreases-of_what
decreases-of_what l = 9 * goal.size-of_what l + 1

abbrev pub decreases-of_give : goal.decreases-of_give
decreases-of_give l = 9 * goal.size-of_give l + 1

abbrev pub decreases-of_items : goal.decreases-of_items
decreases-of_items l = 9 * goal.size-of_items l + 3

abbrev pub decreases-of_arguments : goal.decreases-of_arguments
decreases-of_arguments l = 9 * goal.size-of_arguments l + 3

abbrev pub decreases-of_extending : goal.decreases-of_extending
decreases-of_extending l = 9 * goal.size-of_extending l + 4
