use Rattle.std.proofs.Common.{length}
use Rattle.mo_values.proofs.selecting.+nothing.Given as goal

abbrev pub decreases-is_nothing : goal.decreases-is_nothing
decreases-is_nothing l = length l.dims.now
