use Rattle.mo_certify.proofs.Rows.{AreRowsTo}
use Rattle.mo_certify.proofs.admissible.rows_hold.Given as goal

abbrev pub invariant-loop-i : goal.invariant-loop-i
invariant-loop-i l = AreRowsTo l.inc l.c l.d l.pairs l.i
