-- What is left to search, the classes that were passed over, and how deep each function goes.
use Rattle.std.proofs.Common.{◌≡◌, ◌+◌, ◌*◌, sum_by, take, drop}
use Rattle.mo_syntax.specs.Classes.{Under, each, outline_of_item}
use Rattle.mo_syntax.specs.ClassTable.{first_row}
use Rattle.mo_syntax.specs.steps.Parts.{classes_in_item}
use Rattle.mo_syntax.proofs.finding.+finding.Given as goal

abbrev pub invariant-in_items-loop-item : goal.invariant-in_items-loop-item
invariant-in_items-loop-item l = record {
  left : first_row l.path ((each outline_of_item (drop l.item-index l.items)).declared (Under (take l.at l.path)) l.next)
      ≡ first_row l.path ((each outline_of_item l.items).declared (Under (take l.at l.path)) l.first);
  count : l.next + sum_by classes_in_item (drop l.item-index l.items) ≡ l.first + sum_by classes_in_item l.items;
}

abbrev pub decreases-in_class : goal.decreases-in_class
decreases-in_class l = 9 * goal.size-in_class l + 2

abbrev pub decreases-in_body : goal.decreases-in_body
decreases-in_body l = 9 * goal.size-in_body l + 1

abbrev pub decreases-in_items : goal.decreases-in_items
decreases-in_items l = 9 * goal.size-in_items l + 3

abbrev pub decreases-in_item : goal.decreases-in_item
decreases-in_item l = 9 * goal.size-in_item l + 1

abbrev pub decreases-in_element : goal.decreases-in_element
decreases-in_element l = 9 * goal.size-in_element l + 1
