-- What is left to list.
use Rattle.std.proofs.Common.{◌≡◌, ◌+◌, ◌++◌, map, true, drop}
use Rattle.mo_syntax.specs.Classes.{each}
use Rattle.mo_syntax.specs.steps.Parts.{outline_of_class}
use Rattle.mo_tree.specs.Keys.{home_of, name_of}
use Rattle.mo_tree.proofs.walk.of_classes.Given as goal

abbrev pub invariant-loop-class : goal.invariant-loop-class
invariant-loop-class l = record {
  count : l.next + (each (outline_of_class true) (drop l.class-index l.classes)).classes ≡ l.first + (each (outline_of_class true) l.classes).classes;
  left : l.names ++ map name_of ((each (outline_of_class true) (drop l.class-index l.classes)).declared (home_of l.scope) l.next)
      ≡ l.initial.names ++ map name_of ((each (outline_of_class true) l.classes).declared (home_of l.scope) l.first);
}
