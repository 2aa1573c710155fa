-- What is left to search, and the classes that were passed over.
use Rattle.std.proofs.Common.{◌≡◌, ◌+◌, sum_by, drop}
use Rattle.mo_syntax.specs.Classes.{Apart, each}
use Rattle.mo_syntax.specs.ClassTable.{class_of_path, first_row, in_file}
use Rattle.mo_syntax.specs.steps.Parts.{classes_in_file}
use Rattle.mo_syntax.proofs.finding.find_class.Given as goal

abbrev pub invariant-loop-file : goal.invariant-loop-file
invariant-loop-file l = record {
  left : first_row l.path ((each in_file (drop l.file-index l.files)).declared Apart l.next) ≡ class_of_path l.files l.path;
  count : l.next + sum_by classes_in_file (drop l.file-index l.files) ≡ 6 + sum_by classes_in_file l.files;
}
