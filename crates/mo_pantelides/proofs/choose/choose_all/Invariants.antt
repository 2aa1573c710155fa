use Rattle.mo_incidence.specs.Offsets.{by_place, by_number}
use Rattle.mo_pantelides.specs.steps.Ranks.{IsChosenTo}
use Rattle.mo_pantelides.proofs.choose.choose_all.Given as goal

abbrev pub invariant-loop-k : goal.invariant-loop-k
invariant-loop-k l = IsChosenTo l.inc (by_place l.paired.c.now) (by_number l.paired.d.now) (by_place l.paired.pairs.now) l.mark l.best l.k 0
