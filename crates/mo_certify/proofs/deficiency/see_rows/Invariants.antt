use Rattle.mo_certify.proofs.Marking.{AreSeenTo}
use Rattle.mo_certify.proofs.deficiency.see_rows.Given as goal

abbrev pub invariant-loop-row : goal.invariant-loop-row
invariant-loop-row l = AreSeenTo l.inc l.rows l.listed l.seen l.row-index
