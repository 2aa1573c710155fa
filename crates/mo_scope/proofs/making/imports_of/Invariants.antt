-- The import clauses so far.
use Rattle.std.proofs.Common.{◌≡◌, flat_map, map, take}
use Rattle.mo_scope.specs.Rows.{import_in}
use Rattle.mo_scope.proofs.making.imports_of.Given as goal

abbrev pub invariant-loop-item : goal.invariant-loop-item
invariant-loop-item l = map (λ clause. clause.now) l.imports ≡ flat_map import_in (take l.item-index l.items)
