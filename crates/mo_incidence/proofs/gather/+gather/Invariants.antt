use Rattle.std.proofs.Common.{◌≡◌, ◌++◌, take}
use Rattle.std.specs.Prelude.{flat_map}
use Rattle.mo_incidence.specs.steps.Gathered.{found}
use Rattle.mo_incidence.proofs.gather.+gather.Given as goal

abbrev pub invariant-gather_list-loop-part : goal.invariant-gather_list-loop-part
invariant-gather_list-loop-part l = l.entries.items ≡ l.initial.entries.items ++ flat_map (λ p. found l.places p l.around) (take l.part-index l.parts)

abbrev pub invariant-gather_signed-loop-term : goal.invariant-gather_signed-loop-term
invariant-gather_signed-loop-term l = l.entries.items ≡ l.initial.entries.items ++ flat_map (λ t. found l.places t.1 l.around) (take l.term-index l.terms)

abbrev pub invariant-gather_values-loop-branch : goal.invariant-gather_values-loop-branch
invariant-gather_values-loop-branch l = l.entries.items ≡ l.initial.entries.items ++ flat_map (λ b. found l.places b.1 l.around) (take l.branch-index l.branches)
