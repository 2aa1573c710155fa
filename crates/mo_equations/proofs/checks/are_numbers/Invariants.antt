-- Those so far.
use Rattle.std.proofs.Common.{All, take}
use Rattle.mo_flat.specs.declared.connect.EndLeaf.{EndLeaf}
use Rattle.mo_connect.specs.Equations.{IsNumericVariable}
use Rattle.mo_equations.proofs.checks.are_numbers.Given as goal

abbrev pub invariant-loop-leaf : goal.invariant-loop-leaf
invariant-loop-leaf l = All (λ (leaf : EndLeaf). IsNumericVariable l.vars leaf.variable) (take l.leaf-index l.leaves)
