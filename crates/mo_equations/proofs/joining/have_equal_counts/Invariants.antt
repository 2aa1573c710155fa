use Rattle.std.proofs.Common.{◌≡◌, drop}
use Rattle.mo_equations.specs.steps.Choices.{counts_are_equal}
use Rattle.mo_equations.proofs.joining.have_equal_counts.Given as goal

abbrev pub invariant-loop-branch : goal.invariant-loop-branch
invariant-loop-branch l = counts_are_equal (drop l.branch-index l.branches) l.other ≡ counts_are_equal l.branches l.other
