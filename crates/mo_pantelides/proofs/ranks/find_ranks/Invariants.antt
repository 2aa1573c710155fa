use Rattle.std.proofs.Common.{◌-◌}
use Rattle.mo_incidence.specs.Signature.{equations}
use Rattle.mo_incidence.specs.Offsets.{by_place, by_number}
use Rattle.mo_pantelides.specs.steps.Ranks.{IsRankingTo}
use Rattle.mo_pantelides.proofs.ranks.find_ranks.Given as goal

abbrev pub invariant-loop-head : goal.invariant-loop-head
invariant-loop-head l = IsRankingTo l.inc (by_place l.paired.c.now) (by_number l.paired.d.now) (by_place l.paired.pairs.now) l.queue l.mark l.head l.tail

abbrev pub decreases-loop-head : goal.decreases-loop-head
decreases-loop-head l = equations l.inc - l.head
