-- Among the parts that are left stands a clause where one is among all.
use Rattle.std.proofs.Common.{◌≡◌, drop, map}
use Rattle.std.specs.List.{list_any}
use Rattle.mo_scope.specs.Extending.{is_clause}
use Rattle.mo_scope.specs.Sights.{part_seen}
use Rattle.mo_scope.proofs.extending.has_clause.Given as goal

abbrev pub invariant-loop-part : goal.invariant-loop-part
invariant-loop-part l = list_any is_clause (map part_seen (drop l.part-index l.parts)) ≡ list_any is_clause (map part_seen l.parts)
