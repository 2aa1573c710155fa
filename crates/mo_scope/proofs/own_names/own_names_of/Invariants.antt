-- The names of the rows so far.
use Rattle.std.proofs.Common.{take}
use Rattle.mo_scope.specs.OwnNames.{AreOwnNames}
use Rattle.mo_scope.proofs.own_names.own_names_of.Given as goal

abbrev pub invariant-loop-row : goal.invariant-loop-row
invariant-loop-row l = AreOwnNames l.owns (take l.row-index l.rows)
