use Rattle.std.proofs.Common.{length}
use Rattle.mo_values.proofs.selecting.+listed.Given as goal

abbrev pub decreases-listed : goal.decreases-listed
decreases-listed l = length l.dims.now
