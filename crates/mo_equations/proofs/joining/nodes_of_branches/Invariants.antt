use Rattle.std.proofs.Common.{◌≡◌, take}
use Rattle.std.specs.Prelude.{sum_by}
use Rattle.mo_equations.specs.steps.Flats.{capped}
use Rattle.mo_equations.proofs.joining.nodes_of_branches.Given as goal

abbrev pub invariant-loop-branch : goal.invariant-loop-branch
invariant-loop-branch l = l.all ≡ capped (sum_by (λ branch. branch.1.nodes) (take l.branch-index l.branches))
