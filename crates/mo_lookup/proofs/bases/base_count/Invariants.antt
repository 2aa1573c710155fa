use Rattle.std.proofs.Common.{◌≡◌, length, map, take}
use Rattle.mo_scope.specs.Rows.{clauses_in}
use Rattle.mo_scope.specs.Sights.{part_seen}
use Rattle.mo_lookup.proofs.bases.base_count.Given as goal

abbrev pub invariant-loop-part : goal.invariant-loop-part
invariant-loop-part l = l.count ≡ length (clauses_in (map part_seen (take l.part-index l.parts)))
