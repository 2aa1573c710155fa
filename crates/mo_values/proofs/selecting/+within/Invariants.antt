use Rattle.std.proofs.Common.{length}
use Rattle.mo_values.proofs.selecting.+within.Given as goal

abbrev pub decreases-within : goal.decreases-within
decreases-within l = length l.dims.now
