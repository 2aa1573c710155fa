use Rattle.std.proofs.Common.{ℕ, ◌<◌, ◌≢◌, slice_index}
use Rattle.mo_incidence.specs.Signature.{equations}
use Rattle.mo_incidence.specs.Offsets.{by_place, by_number}
use Rattle.mo_incidence.specs.Reasons.{LeadsTo}
use Rattle.mo_pantelides.specs.steps.Ranks.{IsRanking, IsNear, RanksOn}
use Rattle.mo_pantelides.proofs.ranks.rank_row.Given as goal

abbrev pub invariant-loop-n : goal.invariant-loop-n
invariant-loop-n l = record {
  ranking : IsRanking l.inc (by_place l.paired.c.now) (by_number l.paired.d.now) (by_place l.paired.pairs.now) l.queue l.mark l.tail;
  near : IsNear l.queue l.mark l.head l.tail;
  on : RanksOn l.initial.queue l.initial.mark l.queue l.mark l.end l.tail;
  done : (x n : ℕ) → x < equations l.inc → n < l.n → LeadsTo l.inc (by_place l.paired.c.now) (by_number l.paired.d.now) (by_place l.paired.pairs.now) (slice_index l.initial.queue l.head) n x → slice_index l.mark x ≢ 0;
}
