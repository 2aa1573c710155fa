-- When what is made of the instances of a class is sound: what the phases behind it may take for granted.
use Rattle.std.specs.Prelude.{All}
use Rattle.mo_flat.specs.declared.connect.EndLeaf.{EndLeaf}
use Rattle.mo_flat.specs.declared.connect.Expanded.{Expanded}
use Rattle.mo_flat.specs.Sound.{IsSoundAssert, IsSoundEquation, IsSoundVariable}
use Rattle.mo_flat.specs.SoundConnects.{IsLeafIn, IsSoundConnects}
use Rattle.mo_connect.specs.Equations.{IsNumericVariable}

-- Its variables, equations and asserts are sound, and so are its connects, whose leaves are numbers.
pub record IsSoundExpansion (e : Expanded) : Type 0 where
  pub variables : All (IsSoundVariable e.vars) e.vars
  pub first : All (IsSoundEquation e.vars) e.first
  pub first_asserts : All (IsSoundAssert e.vars) e.first_asserts
  pub equations : All (IsSoundEquation e.vars) e.equations
  pub asserts : All (IsSoundAssert e.vars) e.asserts
  pub connects : IsSoundConnects e.connects
  pub leaves : (leaf : EndLeaf) → IsLeafIn e.connects leaf → IsNumericVariable e.vars leaf.variable
  pub flows : All (λ flow. IsNumericVariable e.vars flow.0) e.connects.flows
