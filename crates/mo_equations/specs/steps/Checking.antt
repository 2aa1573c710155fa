-- What has to hold of connects and their leaves besides what every connect has.
use Rattle.std.specs.Prelude.{◌≡◌, ◌≢◌, List, length, All}
use Rattle.mo_flat.specs.declared.connect.Connect.{Connect}
use Rattle.mo_flat.specs.declared.connect.End.{End}
use Rattle.mo_flat.specs.declared.connect.EndLeaf.{EndLeaf}
use Rattle.mo_flat.specs.declared.connect.Side.TheVariants.{Neither}
use Rattle.mo_flat.specs.declared.model.FlatVar.{FlatVar}
use Rattle.mo_flat.specs.SoundArray.{element_count}
use Rattle.mo_connect.specs.Equations.{IsNumericVariable}

-- an end has as many elements as its dimensions say
abbrev pub IsFull : End → Type 0
IsFull end = end.side ≢ Neither → length end.elements ≡ element_count end.dims

pub record AreFull (c : Connect) : Type 0 where
  pub left : IsFull c.left
  pub right : IsFull c.right

-- the values of leaves are numbers
abbrev pub AreNumbers : List FlatVar → List EndLeaf → Type 0
AreNumbers vars leaves = All (λ leaf. IsNumericVariable vars leaf.variable) leaves

pub record JoinsNumbers (vars : List FlatVar) (c : Connect) : Type 0 where
  pub left : All (AreNumbers vars) c.left.elements
  pub right : All (AreNumbers vars) c.right.elements
