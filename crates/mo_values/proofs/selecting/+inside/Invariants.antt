use Rattle.std.proofs.Common.{length}
use Rattle.mo_values.proofs.selecting.+inside.Given as goal

abbrev pub decreases-are_inside : goal.decreases-are_inside
decreases-are_inside l = length l.dims.now
