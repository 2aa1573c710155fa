-- What is left to search, and the classes that were passed over.
use Rattle.std.proofs.Common.{◌≡◌, ◌+◌, true, sum_by, take, drop}
use Rattle.mo_syntax.specs.Classes.{Under, each}
use Rattle.mo_syntax.specs.ClassTable.{first_row}
use Rattle.mo_syntax.specs.steps.Parts.{outline_of_class, classes_in_class}
use Rattle.mo_syntax.proofs.finding.in_classes.Given as goal

abbrev pub invariant-loop-class : goal.invariant-loop-class
invariant-loop-class l = record {
  left : first_row l.path ((each (outline_of_class true) (drop l.class-index l.classes)).declared (Under (take l.at l.path)) l.next)
      ≡ first_row l.path ((each (outline_of_class true) l.classes).declared (Under (take l.at l.path)) l.first);
  count : l.next + sum_by classes_in_class (drop l.class-index l.classes) ≡ l.first + sum_by classes_in_class l.classes;
}
