-- The clause among the parts that are left is the one that was asked for.
use Rattle.std.proofs.Common.{◌≡◌, drop, map}
use Rattle.std.specs.Prelude.{slice_get}
use Rattle.mo_scope.specs.Rows.{clauses_in}
use Rattle.mo_scope.specs.Sights.{part_seen}
use Rattle.mo_lookup.proofs.element_list.clause_among.Given as goal

abbrev pub invariant-loop-at : goal.invariant-loop-at
invariant-loop-at l = slice_get (clauses_in (map part_seen (drop l.at l.parts))) l.left ≡ slice_get (clauses_in (map part_seen l.parts)) l.clause
