use Rattle.std.proofs.Common.{length}
use Rattle.mo_typing.proofs.indexing.+push_located.Given as goal

abbrev pub decreases-push_located : goal.decreases-push_located
decreases-push_located l = length l.subs.now
