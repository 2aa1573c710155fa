use Rattle.std.proofs.Common.{length}
use Rattle.mo_typing.proofs.checks.+of_variable.Given as goal

abbrev pub decreases-of_variable : goal.decreases-of_variable
decreases-of_variable l = length l.dims.now
