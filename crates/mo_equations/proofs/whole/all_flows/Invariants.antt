-- Those of the variables so far.
use Rattle.std.proofs.Common.{◌≡◌, flat_map, take}
use Rattle.mo_equations.specs.Leaves.{variables_of}
use Rattle.mo_equations.specs.steps.Standing.{tree_in}
use Rattle.mo_equations.specs.steps.LeafTables.{flow_in}
use Rattle.mo_equations.proofs.whole.all_flows.Given as goal

abbrev pub invariant-loop-k : goal.invariant-loop-k
invariant-loop-k l = l.made ≡ flat_map (flow_in (tree_in l.s l.leaves)) (take l.k (variables_of (tree_in l.s l.leaves)))
