-- The sizes of the prefixes so far.
use Rattle.std.proofs.Common.{◌≡◌, flat_map, take}
use Rattle.mo_equations.specs.steps.Declaring.{dims_found}
use Rattle.mo_equations.specs.steps.LeafTables.{prefixes}
use Rattle.mo_equations.specs.steps.Tables.{paths_seen, place_among}
use Rattle.mo_equations.proofs.variables.sizes_along.Given as goal

abbrev pub invariant-loop-k : goal.invariant-loop-k
invariant-loop-k l = l.sizes ≡ flat_map (λ around. dims_found l.leaves.instances.now (place_among (paths_seen l.leaves.all) around)) (take l.k (prefixes l.path))
