-- The greatest depth so far, and how deep each function goes.
use Rattle.std.proofs.Common.{◌≡◌, ◌+◌, ◌*◌, ◌-◌, ◌^◌, min, take}
use Rattle.mo_syntax.specs.Depth.{greatest_by, depth_in_item}
use Rattle.mo_syntax.proofs.nesting.+depth.Given as goal

abbrev pub invariant-of_items-loop-item : goal.invariant-of_items-loop-item
invariant-of_items-loop-item l = l.most ≡ min (greatest_by depth_in_item (take l.item-index l.items)) (2 ^ 32 - 1)

abbrev pub decreases-depth : goal.decreases-depth
decreases-depth l = 9 * goal.size-depth l + 2

abbrev pub decreases-of_body : goal.decreases-of_body
decreases-of_body l = 9 * goal.size-of_body l + 1

abbrev pub decreases-of_items : goal.decreases-of_items
decreases-of_items l = 9 * goal.size-of_items l + 3

abbrev pub decreases-of_item : goal.decreases-of_item
decreases-of_item l = 9 * goal.size-of_item l + 1

abbrev pub decreases-of_what : goal.decreases-of_what
decreases-of_what l = 9 * goal.size-of_what l + 1
