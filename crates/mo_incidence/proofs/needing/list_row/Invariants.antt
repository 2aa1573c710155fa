use Rattle.mo_incidence.specs.Offsets.{by_place, by_number}
use Rattle.mo_incidence.specs.steps.Needing.{HasNeeds}
use Rattle.mo_incidence.proofs.needing.list_row.Given as goal

abbrev pub invariant-loop-k : goal.invariant-loop-k
invariant-loop-k l = HasNeeds l.inc (by_place l.c) (by_number l.d) (by_place l.pairs) l.edges.sources.items l.edges.targets.items l.i l.k
