-- What was counted so far.
use Rattle.std.proofs.Common.{◌≡◌, ◌-◌, ◌^◌, min, sum_by, take}
use Rattle.mo_syntax.specs.steps.Parts.{classes_in_file}
use Rattle.mo_syntax.proofs.classes.class_count.Given as goal

abbrev pub invariant-loop-file : goal.invariant-loop-file
invariant-loop-file l = l.all ≡ min (sum_by classes_in_file (take l.file-index l.files)) (2 ^ 32 - 1)
