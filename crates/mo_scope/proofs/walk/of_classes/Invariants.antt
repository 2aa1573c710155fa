-- What is left to list.
use Rattle.std.proofs.Common.{◌≡◌, ◌+◌, ◌++◌, map, true, drop}
use Rattle.mo_syntax.specs.Classes.{each}
use Rattle.mo_syntax.specs.steps.Parts.{outline_of_class}
use Rattle.std.specs.List.{flat_map}
use Rattle.mo_scope.specs.Rows.{entry_in}
use Rattle.mo_scope.specs.Sights.{home_seen}
use Rattle.mo_scope.specs.steps.Listed.{class_seen}
use Rattle.mo_scope.proofs.walk.of_classes.Given as goal

abbrev pub invariant-loop-class : goal.invariant-loop-class
invariant-loop-class l = record {
  count : l.next + (each (outline_of_class true) (drop l.class-index l.classes)).classes ≡ l.first + (each (outline_of_class true) l.classes).classes;
  left : map class_seen l.so_far ++ flat_map entry_in ((each (outline_of_class true) (drop l.class-index l.classes)).declared (home_seen l.scope) l.next)
      ≡ map class_seen l.initial.so_far ++ flat_map entry_in ((each (outline_of_class true) l.classes).declared (home_seen l.scope) l.first);
}
