use Rattle.std.proofs.Common.{length}
use Rattle.mo_values.proofs.selecting.+emptied.Given as goal

abbrev pub decreases-push_emptied : goal.decreases-push_emptied
decreases-push_emptied l = length l.dims.now
