-- What the identifiers that are left find is what all find behind the first one.
use Rattle.std.proofs.Common.{◌≡◌, drop}
use Rattle.mo_scope.specs.Names.{found_behind}
use Rattle.mo_scope.specs.Worlds.{Grows, table_in}
use Rattle.mo_names.specs.Sights.{IsFound, found_at}
use Rattle.mo_lookup.proofs.path.find_all_behind.Given as goal

abbrev pub invariant-loop-at : goal.invariant-loop-at
invariant-loop-at l = record {
  grows : Grows l.initial.s l.s;
  stand : IsFound l.s l.found;
  left : found_behind (table_in l.initial.s) (found_at l.s l.found) (drop l.at l.parts)
      ≡ found_behind (table_in l.initial.s) (found_at l.initial.s l.initial.found) (drop 1 l.parts);
}
