use Rattle.mo_incidence.proofs.Building.{IsRowTo}
use Rattle.mo_incidence.proofs.builder.is_row.Given as goal

abbrev pub invariant-loop-entry : goal.invariant-loop-entry
invariant-loop-entry l = IsRowTo l.unknowns l.row l.entry-index l.before
