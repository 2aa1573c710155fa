use Rattle.std.proofs.Common.{length}
use Rattle.mo_typing.proofs.indexing.+offset.Given as goal

abbrev pub decreases-offset : goal.decreases-offset
decreases-offset l = length l.dims.now
