-- The classes so far.
use Rattle.std.proofs.Common.{◌≡◌, map, take}
use Rattle.mo_scope.specs.Extending.{is_extending_row}
use Rattle.mo_scope.specs.Sights.{row_seen}
use Rattle.mo_scope.proofs.extending.extending_of.Given as goal

abbrev pub invariant-loop-row : goal.invariant-loop-row
invariant-loop-row l = l.extending ≡ map (λ row. is_extending_row (row_seen row)) (take l.row-index l.rows)
