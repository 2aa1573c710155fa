use Rattle.std.proofs.Common.{◌≡◌, false, take}
use Rattle.std.specs.List.{list_any}
use Rattle.mo_symdiff.specs.Still.{has_given}
use Rattle.mo_symdiff.proofs.still.+given.Given as goal

abbrev pub invariant-some_given-loop-part : goal.invariant-some_given-loop-part
invariant-some_given-loop-part l = list_any (has_given l.vars) (take l.part-index l.parts) ≡ false

abbrev pub invariant-some_signed_given-loop-term : goal.invariant-some_signed_given-loop-term
invariant-some_signed_given-loop-term l = list_any (λ t. has_given l.vars t.1) (take l.term-index l.terms) ≡ false

abbrev pub invariant-some_value_given-loop-branch : goal.invariant-some_value_given-loop-branch
invariant-some_value_given-loop-branch l = list_any (λ b. has_given l.vars b.1) (take l.branch-index l.branches) ≡ false
