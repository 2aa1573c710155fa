use Rattle.std.proofs.Common.{◌-◌}
use Rattle.mo_certify.proofs.Halving.{IsBetween}
use Rattle.mo_certify.proofs.entries.find_entry.Given as goal

abbrev pub invariant-loop-low : goal.invariant-loop-low
invariant-loop-low l = IsBetween l.inc (l.row - 1) l.unknown l.low l.high

abbrev pub decreases-loop-low : goal.decreases-loop-low
decreases-loop-low l = l.high - l.low
