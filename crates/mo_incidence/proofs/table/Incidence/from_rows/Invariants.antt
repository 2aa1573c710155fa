use Rattle.mo_incidence.specs.steps.Given.{given}
use Rattle.mo_incidence.proofs.Building.{IsBuiltTo}
use Rattle.mo_incidence.proofs.table.Incidence.from_rows.Given as goal

abbrev pub invariant-loop-row : goal.invariant-loop-row
invariant-loop-row l = IsBuiltTo (given l.unknowns l.rows) l.row-index l.starts.items l.flat.items
