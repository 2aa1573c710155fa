use Rattle.std.proofs.Common.{sym}
use Rattle.mo_incidence.proofs.Rows.{table_unknowns}
use Rattle.mo_incidence.proofs.table.Incidence.unknowns.Goals as goal

pub returns : goal.returns
returns c = sym (table_unknowns _ _ _ _ c.self.view_is c.self.invariant)
