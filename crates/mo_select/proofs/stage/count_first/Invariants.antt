use Rattle.std.proofs.Common.{◌≡◌}
use Rattle.mo_incidence.specs.Counting.{count_below}
use Rattle.mo_incidence.specs.Offsets.{by_place}
use Rattle.mo_select.proofs.stage.count_first.Given as goal

abbrev pub invariant-loop-t : goal.invariant-loop-t
invariant-loop-t l = l.count ≡ count_below (by_place l.pairs) l.t
