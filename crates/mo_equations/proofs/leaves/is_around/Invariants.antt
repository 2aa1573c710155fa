-- No prefix so far is among the paths.
use Rattle.std.proofs.Common.{◌≡◌, false, is_some, take}
use Rattle.std.specs.List.{list_any}
use Rattle.mo_equations.specs.steps.LeafTables.{prefixes}
use Rattle.mo_equations.specs.steps.Tables.{paths_seen, place_among}
use Rattle.mo_equations.proofs.leaves.is_around.Given as goal

abbrev pub invariant-loop-k : goal.invariant-loop-k
invariant-loop-k l = list_any (λ around. is_some (place_among (paths_seen l.table) around)) (take l.k (prefixes l.path)) ≡ false
