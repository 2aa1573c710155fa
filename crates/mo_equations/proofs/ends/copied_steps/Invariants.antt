use Rattle.std.proofs.Common.{◌≡◌, take}
use Rattle.mo_equations.proofs.ends.copied_steps.Given as goal

abbrev pub invariant-loop-step : goal.invariant-loop-step
invariant-loop-step l = l.made ≡ take l.step-index l.steps
