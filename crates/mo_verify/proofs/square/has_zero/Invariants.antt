use Rattle.std.proofs.Common.{◌≡◌}
use Rattle.mo_incidence.specs.Offsets.{by_number}
use Rattle.mo_report.specs.Right.{has_zero}
use Rattle.mo_verify.proofs.square.has_zero.Given as goal

abbrev pub invariant-loop-u : goal.invariant-loop-u
invariant-loop-u l = l.found ≡ has_zero (by_number l.d) l.u
