use Rattle.std.proofs.Common.{◌≡◌, true, take}
use Rattle.std.specs.List.{list_all}
use Rattle.mo_symdiff.specs.Still.{is_still}
use Rattle.mo_symdiff.proofs.still.+still.Given as goal

abbrev pub invariant-all_stay-loop-part : goal.invariant-all_stay-loop-part
invariant-all_stay-loop-part l = list_all (is_still l.vars) (take l.part-index l.parts) ≡ true

abbrev pub invariant-all_signed_stay-loop-term : goal.invariant-all_signed_stay-loop-term
invariant-all_signed_stay-loop-term l = list_all (λ t. is_still l.vars t.1) (take l.term-index l.terms) ≡ true

abbrev pub invariant-all_values_stay-loop-branch : goal.invariant-all_values_stay-loop-branch
invariant-all_values_stay-loop-branch l = list_all (λ b. is_still l.vars b.1) (take l.branch-index l.branches) ≡ true
