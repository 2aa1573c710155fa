-- Those so far.
use Rattle.std.proofs.Common.{◌≡◌, Ok, take}
use Rattle.mo_typing.specs.Outcome.{each}
use Rattle.mo_equations.specs.steps.Choices.{branch_at}
use Rattle.mo_equations.proofs.joining.joined_branches.Given as goal

abbrev pub invariant-loop-branch : goal.invariant-loop-branch
invariant-loop-branch l = each (branch_at l.k) (take l.branch-index l.branches) ≡ Ok l.made
