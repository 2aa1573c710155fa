use Rattle.std.proofs.Common.{◌≡◌}
use Rattle.mo_incidence.specs.Offsets.{by_place}
use Rattle.mo_incidence.specs.Dummies.{greatest}
use Rattle.mo_verify.proofs.square.greatest.Given as goal

abbrev pub invariant-loop-i : goal.invariant-loop-i
invariant-loop-i l = l.most ≡ greatest (by_place l.c) l.i
