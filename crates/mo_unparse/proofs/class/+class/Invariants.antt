-- What is written so far, and how deep each function goes.
use Rattle.std.proofs.Common.{◌≡◌, ◌++◌, ◌+◌, ◌*◌, map, take, drop, eqb}
use Rattle.mo_pieces.specs.Gathered.{gathered}
use Rattle.mo_pieces.specs.ShownExpressions.{commas}
use Rattle.mo_pieces.specs.ShownElements.{items_from}
use Rattle.mo_pieces.specs.ShownClasses.{pieces_of_argument, pieces_of_items, shown_item}
use Rattle.mo_unparse.proofs.class.+class.Given as goal

-- what is left to write
abbrev pub invariant-write_items-loop-item : goal.invariant-write_items-loop-item
invariant-write_items-loop-item l =
    gathered l.out ++ items_from l.before (map shown_item (drop l.item-index l.items)) ≡ gathered l.initial.out ++ pieces_of_items l.items

abbrev pub invariant-write_arguments-loop-argument : goal.invariant-write_arguments-loop-argument
invariant-write_arguments-loop-argument l =
    (gathered l.out ≡ gathered l.initial.out ++ commas pieces_of_argument (take l.argument-index l.arguments)) × (l.first ≡ eqb l.argument-index 0)

abbrev pub decreases-write_class : goal.decreases-write_class
decreases-write_class l = 9 * goal.size-write_class l + 2

abbrev pub decreases-write_body : goal.decreases-write_body
decreases-write_body l = 9 * goal.size-write_body l + 1

abbrev pub decreases-write_name : goal.decreases-write_name
decreases-write_name l = 9 * goal.size-write_name l + 6

abbrev pub decreases-write_inside : goal.decreases-write_inside
decreases-write_inside l = 9 * goal.size-write_inside l + 5

abbrev pub decreases-write_short : goal.decreases-write_short
decreases-write_short l = 9 * goal.size-write_short l + 6

abbrev pub decreases-write_items : goal.decreases-write_items
decreases-write_items l = 9 * goal.size-write_items l + 4

abbrev pub decreases-write_item : goal.decreases-write_item
decreases-write_item l = 9 * goal.size-write_item l + 1

abbrev pub decreases-write_extends : goal.decreases-write_extends
decreases-write_extends l = 9 * goal.size-write_extends l + 6

abbrev pub decreases-write_element : goal.decreases-write_element
decreases-write_element l = 9 * goal.size-write_element l + 1

abbrev pub decreases-write_what : goal.decreases-write_what
decreases-write_what l = 9 * goal.size-write_what l + 1

abbrev pub decreases-write_component : goal.decreases-write_component
decreases-write_component l = 9 * goal.size-write_component l + 6

abbrev pub decreases-write_limit : goal.decreases-write_limit
decreases-write_limit l = 9 * goal.size-write_limit l + 6

abbrev pub decreases-write_mods : goal.decreases-write_mods
decreases-write_mods l = 9 * goal.size-write_mods l + 5

abbrev pub decreases-write_arguments : goal.decreases-write_arguments
decreases-write_arguments l = 9 * goal.size-write_arguments l + 4

abbrev pub decreases-write_argument : goal.decreases-write_argument
decreases-write_argument l = 9 * goal.size-write_argument l + 2

abbrev pub decreases-write_give : goal.decreases-write_give
decreases-write_give l = 9 * goal.size-write_give l + 1
