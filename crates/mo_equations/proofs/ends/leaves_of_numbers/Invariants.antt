-- The leaves of the numbers so far.
use Rattle.std.proofs.Common.{◌≡◌, flat_map, take}
use Rattle.mo_equations.specs.steps.Standing.{tree_in}
use Rattle.mo_equations.specs.steps.LeafTables.{leaf_at_number}
use Rattle.mo_equations.proofs.ends.leaves_of_numbers.Given as goal

abbrev pub invariant-loop-number : goal.invariant-loop-number
invariant-loop-number l = l.made ≡ flat_map (leaf_at_number (tree_in l.s l.leaves) l.path) (take l.number-index l.numbers)
