-- What is held of a name, with what the parts that are left add.
use Rattle.std.proofs.Common.{◌≡◌, ℕ, List, drop, map}
use Rattle.mo_syntax.specs.ClassTable.{otherwise}
use Rattle.mo_scope.specs.OwnNames.{own_held, own_place}
use Rattle.mo_scope.specs.Sights.{part_seen}
use Rattle.mo_scope.proofs.own_names.named.Given as goal

abbrev pub invariant-loop-at : goal.invariant-loop-at
invariant-loop-at l = (name : List ℕ) → otherwise (own_held l.names name) (own_place name l.at l.item (map part_seen (drop l.at l.parts))) ≡ own_place name 0 0 (map part_seen l.parts)
