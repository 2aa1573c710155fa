-- Those so far.
use Rattle.std.proofs.Common.{◌≡◌, Ok}
use Rattle.mo_equations.specs.steps.Choices.{all_joined}
use Rattle.mo_equations.proofs.joining.joined_equations.Given as goal

abbrev pub invariant-loop-k : goal.invariant-loop-k
invariant-loop-k l = all_joined l.place l.choice l.k ≡ Ok l.made
