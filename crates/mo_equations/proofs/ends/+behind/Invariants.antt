use Rattle.std.proofs.Common.{length}
use Rattle.mo_equations.proofs.ends.+behind.Given as goal

abbrev pub decreases-behind : goal.decreases-behind
decreases-behind l = length l.path.now
