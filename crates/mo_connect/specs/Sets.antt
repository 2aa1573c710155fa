-- The connection sets of a class (Modelica Language Specification 3.5, section 9.2). A face is the number of a leaf's variable,
-- with true where its connector is outside.
use Rattle.std.specs.Prelude.{◌≡◌, ◌≢◌, ◌⊎◌, ℕ, ◌<◌, Bool, true, false, List, [], ◌∷◌, length, Contains, All}
use Rattle.mo_syntax.specs.declared.place.Place.{Place}
use Rattle.mo_syntax.specs.declared.place.Stop.{Stop}
use Rattle.mo_syntax.specs.declared.place.Stop.TheVariants.{Broken, NoMemory}
use Rattle.mo_flat.specs.declared.connect.Connect.{Connect}
use Rattle.mo_flat.specs.declared.connect.Connects.{Connects}
use Rattle.mo_flat.specs.declared.connect.EndLeaf.{EndLeaf}
use Rattle.mo_flat.specs.declared.connect.FaceSet.{FaceSet}
use Rattle.mo_flat.specs.SoundConnects.{IsLeafIn}
use Rattle.mo_connect.specs.declared.joins.Face.{Face}
use Rattle.mo_connect.specs.declared.joins.Join.{Join}
use Rattle.mo_connect.specs.Alike.{IsFirstBroken}
use Rattle.mo_connect.specs.Joins.{IsAt, JoinsConnectAt, number_of}

abbrev pub seen : Face → ℕ × Bool
seen face = (face.variable, face.outside)

-- linked by a chain of connects
pub data IsJoined (c : Connects) : ℕ × Bool → ℕ × Bool → Type 0 where
  same : {a : ℕ × Bool} → IsJoined c a a
  connected : (k : ℕ) (x : Join) → JoinsConnectAt c.list k x → IsJoined c (seen x.left) (seen x.right)
  back : {a b : ℕ × Bool} → IsJoined c a b → IsJoined c b a
  chain : {a b d : ℕ × Bool} → IsJoined c a b → IsJoined c b d → IsJoined c a d

-- a variable is listed among the flow leaves
pub record IsFlowLeaf (c : Connects) (variable : ℕ) : Type 0 where
  pub at : ℕ
  pub leaf : ℕ × Place
  pub there : IsAt c.flows at leaf
  pub is : leaf.0 ≡ variable

-- what the leaf of a variable is declared to be
pub data IsDeclared (c : Connects) (variable : ℕ) (flow : Bool) (place : Place) : Type 0 where
  left : (k : ℕ) (x : Join) → JoinsConnectAt c.list k x → x.left.variable ≡ variable → x.left.flow ≡ flow → x.left.place ≡ place → IsDeclared c variable flow place
  right : (k : ℕ) (x : Join) → JoinsConnectAt c.list k x → x.right.variable ≡ variable → x.right.flow ≡ flow → x.right.place ≡ place → IsDeclared c variable flow place
  listed : (k : ℕ) (f : ℕ × Place) → IsAt c.flows k f → f.0 ≡ variable → flow ≡ true → f.1 ≡ place → IsDeclared c variable flow place

-- the inside face of a flow leaf alone
pub record IsLoneFlow (c : Connects) (members : List (ℕ × Bool)) : Type 0 where
  pub variable : ℕ
  pub is : members ≡ (variable, false) ∷ []
  pub listed : IsFlowLeaf c variable

-- a class of joined faces with more than one member, or the inside face of a flow leaf that is joined to nothing; the members
-- stand in the order of their leaves, the inside one first
pub record IsConnectionSet (c : Connects) (members : List (ℕ × Bool)) : Type 0 where
  pub ordered : (j k : ℕ) (a b : ℕ × Bool) → IsAt members j a → IsAt members k b → j < k → number_of a < number_of b
  pub joined : (a b : ℕ × Bool) → Contains members a → Contains members b → IsJoined c a b
  pub whole : (a b : ℕ × Bool) → Contains members a → IsJoined c a b → Contains members b
  pub enough : (1 < length members) ⊎ IsLoneFlow c members

pub record IsInSome (sets : List FaceSet) (face : ℕ × Bool) : Type 0 where
  pub at : ℕ
  pub set : FaceSet
  pub there : IsAt sets at set
  pub member : Contains set.members face

-- all connection sets, in the order of their first members
pub record AreConnectionSets (c : Connects) (sets : List FaceSet) : Type 0 where
  pub each : (k : ℕ) (s : FaceSet) → IsAt sets k s → IsConnectionSet c s.members
  pub declared : (k : ℕ) (s : FaceSet) (first : ℕ × Bool) → IsAt sets k s → IsAt s.members 0 first → IsDeclared c first.0 s.flow s.place
  pub ordered : (j k : ℕ) (s t : FaceSet) (a b : ℕ × Bool) → IsAt sets j s → IsAt sets k t → j < k → IsAt s.members 0 a → IsAt t.members 0 b → number_of a < number_of b
  pub joined : (a b : ℕ × Bool) → IsJoined c a b → a ≢ b → IsInSome sets a
  pub flows : (variable : ℕ) → IsFlowLeaf c variable → IsInSome sets (variable, false)

-- the variable is that of a leaf of some end, or of a listed flow leaf
pub data IsOfLeaf (c : Connects) (variable : ℕ) : Type 0 where
  leaf : (l : EndLeaf) → IsLeafIn c l → l.variable ≡ variable → IsOfLeaf c variable
  flow : IsFlowLeaf c variable → IsOfLeaf c variable

-- each member of a set is the face of a leaf
abbrev pub HasLeaves : Connects → FaceSet → Type 0
HasLeaves c set = All (λ member. IsOfLeaf c member.0) set.members

abbrev pub IsFirstStop : List Connect → Stop → Type 0
IsFirstStop connects (Broken b) = IsFirstBroken connects b
IsFirstStop connects NoMemory = Unit {0}
