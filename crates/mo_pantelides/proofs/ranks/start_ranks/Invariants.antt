use Rattle.mo_incidence.specs.Offsets.{by_place, by_number}
use Rattle.mo_pantelides.specs.steps.Ranks.{IsStarting}
use Rattle.mo_pantelides.proofs.ranks.start_ranks.Given as goal

abbrev pub invariant-loop-i : goal.invariant-loop-i
invariant-loop-i l = IsStarting l.inc (by_place l.c) (by_number l._d) (by_place l._pairs) l.queue l.mark l.tail l.i
