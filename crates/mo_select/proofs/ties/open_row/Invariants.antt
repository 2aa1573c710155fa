use Rattle.mo_incidence.specs.Offsets.{by_place, by_number}
use Rattle.mo_select.specs.steps.Ties.{IsOpenRow}
use Rattle.mo_select.proofs.ties.open_row.Given as goal

abbrev pub invariant-loop-k : goal.invariant-loop-k
invariant-loop-k l = IsOpenRow l.inc (by_place l.c) (by_number l.d) l.rank l.end l.i l.k l.row.items
