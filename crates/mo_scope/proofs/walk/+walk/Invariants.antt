-- What is left to list, and how deep each function goes.
use Rattle.std.proofs.Common.{◌≡◌, ◌+◌, ◌*◌, ◌++◌, map, drop}
use Rattle.mo_syntax.specs.Classes.{Apart, each, outline_of_give, outline_of_item}
use Rattle.std.specs.List.{flat_map}
use Rattle.mo_scope.specs.Rows.{entry_in}
use Rattle.mo_scope.specs.Sights.{home_seen}
use Rattle.mo_scope.specs.steps.Listed.{class_seen}
use Rattle.mo_scope.proofs.walk.+walk.Given as goal

abbrev pub invariant-of_items-loop-item : goal.invariant-of_items-loop-item
invariant-of_items-loop-item l = record {
  count : l.next + (each outline_of_item (drop l.item-index l.items)).classes ≡ l.first + (each outline_of_item l.items).classes;
  left : map class_seen l.so_far ++ flat_map entry_in ((each outline_of_item (drop l.item-index l.items)).declared (home_seen l.scope) l.next)
      ≡ map class_seen l.initial.so_far ++ flat_map entry_in ((each outline_of_item l.items).declared (home_seen l.scope) l.first);
}

abbrev pub invariant-of_arguments-loop-argument : goal.invariant-of_arguments-loop-argument
invariant-of_arguments-loop-argument l = record {
  count : l.next + (each (λ a. outline_of_give a.give) (drop l.argument-index l.arguments)).classes ≡ l.first + (each (λ a. outline_of_give a.give) l.arguments).classes;
  left : map class_seen l.so_far ++ flat_map entry_in ((each (λ a. outline_of_give a.give) (drop l.argument-index l.arguments)).declared Apart l.next)
      ≡ map class_seen l.initial.so_far ++ flat_map entry_in ((each (λ a. outline_of_give a.give) l.arguments).declared Apart l.first);
}

abbrev pub decreases-of_class : goal.decreases-of_class
decreases-of_class l = 9 * goal.size-of_class l + 2

abbrev pub decreases-of_body : goal.decreases-of_body
decreases-of_body l = 9 * goal.size-of_body l + 1

abbrev pub decreases-of_extending : goal.decreases-of_extending
decreases-of_extending l = 9 * goal.size-of_extending l + 4

abbrev pub decreases-of_items : goal.decreases-of_items
decreases-of_items l = 9 * goal.size-of_items l + 3

abbrev pub decreases-of_item : goal.decreases-of_item
decreases-of_item l = 9 * goal.size-of_item l + 1

abbrev pub decreases-of_element : goal.decreases-of_element
decreases-of_element l = 9 * goal.size-of_element l + 2

abbrev pub decreases-of_declared : goal.decreases-of_declared
decreases-of_declared l = 9 * goal.size-of_declared l + 1

abbrev pub decreases-of_what : goal.decreases-of_what
decreases-of_what l = 9 * goal.size-of_what l + 1

abbrev pub decreases-of_arguments : goal.decreases-of_arguments
decreases-of_arguments l = 9 * goal.size-of_arguments l + 3

abbrev pub decreases-of_give : goal.decreases-of_give
decreases-of_give l = 9 * goal.size-of_give l + 1
