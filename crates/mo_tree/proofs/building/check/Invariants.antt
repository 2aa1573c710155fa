-- The answer for the files that are left is the answer for all.
use Rattle.std.proofs.Common.{◌≡◌, drop}
use Rattle.mo_syntax.specs.ClassTable.{broken_tree}
use Rattle.mo_tree.specs.Keys.{holds}
use Rattle.mo_tree.specs.steps.Repeats.{files_broken}
use Rattle.mo_tree.proofs.building.check.Given as goal

abbrev pub invariant-loop-file : goal.invariant-loop-file
invariant-loop-file l = files_broken l.files (holds l.keys) l.next (drop l.file-index l.files) ≡ broken_tree l.files
