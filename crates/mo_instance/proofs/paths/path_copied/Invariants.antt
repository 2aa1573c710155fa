-- What was copied is the names so far.
use Rattle.std.proofs.Common.{◌≡◌, take}
use Rattle.mo_instance.proofs.paths.path_copied.Given as goal

abbrev pub invariant-loop-step : goal.invariant-loop-step
invariant-loop-step l = l.made ≡ take l.step-index l.steps
