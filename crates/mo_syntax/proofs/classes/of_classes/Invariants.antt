-- What was counted so far.
use Rattle.std.proofs.Common.{◌≡◌, ◌-◌, ◌^◌, min, sum_by, take}
use Rattle.mo_syntax.specs.steps.Parts.{classes_in_class}
use Rattle.mo_syntax.proofs.classes.of_classes.Given as goal

abbrev pub invariant-loop-class : goal.invariant-loop-class
invariant-loop-class l = l.all ≡ min (sum_by classes_in_class (take l.class-index l.classes)) (2 ^ 32 - 1)
