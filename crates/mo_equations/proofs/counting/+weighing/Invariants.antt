use Rattle.std.proofs.Common.{◌≡◌, ◌+◌, take}
use Rattle.std.specs.Prelude.{sum_by}
use Rattle.mo_equations.specs.steps.Counting.{weight, weight_at}
use Rattle.mo_equations.specs.steps.Flats.{capped}
use Rattle.mo_equations.proofs.counting.+weighing.Given as goal

abbrev pub invariant-weight_signed-loop-term : goal.invariant-weight_signed-loop-term
invariant-weight_signed-loop-term l = l.all ≡ capped (sum_by (λ term. weight (weight_at l.replaced) term.1) (take l.term-index l.terms))

abbrev pub invariant-weight_list-loop-part : goal.invariant-weight_list-loop-part
invariant-weight_list-loop-part l = l.all ≡ capped (sum_by (weight (weight_at l.replaced)) (take l.part-index l.parts))

abbrev pub invariant-weight_branches-loop-branch : goal.invariant-weight_branches-loop-branch
invariant-weight_branches-loop-branch l = l.all ≡ capped (sum_by (λ branch. weight (weight_at l.replaced) branch.0 + weight (weight_at l.replaced) branch.1) (take l.branch-index l.branches))
