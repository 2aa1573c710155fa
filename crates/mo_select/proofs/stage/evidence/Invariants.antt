use Rattle.mo_incidence.specs.Offsets.{by_place, by_number}
use Rattle.mo_select.specs.steps.Staging.{AreEvidence}
use Rattle.mo_select.proofs.stage.evidence.Given as goal

abbrev pub invariant-loop-end : goal.invariant-loop-end
invariant-loop-end l = AreEvidence l.inc (by_place l.remaining.c.now) (by_number l.remaining.d.now) l.remaining.active.now l.order l.ends l.pairs l.end-index l.counts l.without
