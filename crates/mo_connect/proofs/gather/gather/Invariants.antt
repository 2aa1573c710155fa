use Rattle.std.proofs.Common.{◌≡◌}
use Rattle.mo_connect.specs.steps.Gathering.{sets_below}
use Rattle.mo_connect.proofs.gather.gather.Given as goal

abbrev pub invariant-loop-n : goal.invariant-loop-n
invariant-loop-n l = l.sets ≡ sets_below l.labels l.table l.n
