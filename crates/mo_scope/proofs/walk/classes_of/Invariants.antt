-- What is left to list.
use Rattle.std.proofs.Common.{◌≡◌, ◌++◌, map, drop}
use Rattle.std.specs.List.{flat_map}
use Rattle.mo_syntax.specs.Classes.{Apart, each}
use Rattle.mo_syntax.specs.ClassTable.{in_file}
use Rattle.mo_scope.specs.steps.Listed.{class_seen}
use Rattle.mo_scope.specs.Rows.{entry_in, entries_of}
use Rattle.mo_scope.proofs.walk.classes_of.Given as goal

abbrev pub invariant-loop-file : goal.invariant-loop-file
invariant-loop-file l = map class_seen l.classes ++ flat_map entry_in ((each in_file (drop l.file-index l.files)).declared Apart l.next) ≡ entries_of l.files
