use Rattle.std.proofs.Common.{◌≡◌, ◌++◌, length, take}
use Rattle.mo_eval.specs.Virtuals.{numbers_behind}
use Rattle.mo_eval.proofs.Putting.{variables_at}
use Rattle.mo_eval.proofs.references.put_variables.Given as goal

abbrev pub invariant-loop-element : goal.invariant-loop-element
invariant-loop-element l =
    (l.virtuals ≡ l.initial.virtuals ++ variables_at l.common (take l.element-index l.elements))
    × (l.numbers ≡ numbers_behind (length l.initial.virtuals) (take l.element-index l.elements))
