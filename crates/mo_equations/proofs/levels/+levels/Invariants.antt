-- How many levels are left.
use Rattle.std.proofs.Common.{◌+◌, ◌*◌}
use Rattle.mo_equations.proofs.levels.+levels.Given as goal

abbrev pub decreases-is_within : goal.decreases-is_within
decreases-is_within l = 2 * l.left + 0

abbrev pub decreases-are_signed_within : goal.decreases-are_signed_within
decreases-are_signed_within l = 2 * l.left + 1

abbrev pub decreases-are_within : goal.decreases-are_within
decreases-are_within l = 2 * l.left + 1

abbrev pub decreases-are_branches_within : goal.decreases-are_branches_within
decreases-are_branches_within l = 2 * l.left + 1
