use Rattle.mo_incidence.specs.Offsets.{by_place, by_number}
use Rattle.mo_select.specs.steps.Ties.{entries_in, HasTies}
use Rattle.mo_select.proofs.ties.ties.Given as goal

abbrev pub invariant-loop-e : goal.invariant-loop-e
invariant-loop-e l = HasTies l.inc (by_place l.remaining.c.now) (by_number l.remaining.d.now) l.remaining.active.now l.order (entries_in l.rows.items) l.e 0
