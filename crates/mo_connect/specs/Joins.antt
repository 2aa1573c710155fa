-- Which faces a connect joins. A face is a leaf of a connector with its side, inside or outside (Modelica Language
-- Specification 3.5, section 9.1.2).
use Rattle.std.specs.Prelude.{◌≡◌, ℕ, ◌+◌, ◌*◌, ◌<◌, Bool, true, false, List, ◌++◌, length, slice_index_or, Contains, All}
use Rattle.mo_flat.specs.declared.connect.Connect.{Connect}
use Rattle.mo_flat.specs.declared.connect.EndLeaf.{EndLeaf}
use Rattle.mo_flat.specs.declared.connect.Side.{Side}
use Rattle.mo_flat.specs.declared.connect.Side.TheVariants.{Outside}
pub use Rattle.mo_flat.specs.SoundConnects.{IsAt, AreDistinct}
use Rattle.mo_connect.specs.declared.joins.Face.{Face}
use Rattle.mo_connect.specs.declared.joins.Join.{Join}

abbrev pub is_outside : Side → Bool
is_outside Outside = true
is_outside _ = false

abbrev pub face_of : Side → EndLeaf → Face
face_of side leaf = record { variable = leaf.variable; outside = is_outside side; flow = leaf.flow; place = leaf.place }

abbrev pub bit : Bool → ℕ
bit true = 1
bit false = 0

-- two numbers for each variable, that of the inside face first
abbrev pub number_of : ℕ × Bool → ℕ
number_of face = 2 * face.0 + bit face.1

-- the list has exactly the values with P
pub record Lists {X : Type 0} (made : List X) (P : X → Type 0) : Type 0 where
  pub only : (k : ℕ) (d : X) → k < length made → P (slice_index_or made k d)
  pub all : (x : X) → P x → Contains made x

-- the list gained exactly the values with P
pub record Gains {X : Type 0} (old new : List X) (P : X → Type 0) : Type 0 where
  pub more : List X
  pub is : new ≡ old ++ more
  pub lists : Lists more P

-- no two leaves of a right connector have the same name below it
abbrev pub HasDistinctLeaves : Connect → Type 0
HasDistinctLeaves c = All AreDistinct c.right.elements

-- a leaf is joined to the leaf of the same name
pub record JoinsLeaf (left_side : Side) (leaf : EndLeaf) (right_side : Side) (rights : List EndLeaf) (x : Join) : Type 0 where
  pub at : ℕ
  pub right : EndLeaf
  pub there : IsAt rights at right
  pub same : leaf.below ≡ right.below
  pub is : x ≡ record { left = face_of left_side leaf; right = face_of right_side right }

pub record JoinsLeafAt (left_side : Side) (lefts : List EndLeaf) (right_side : Side) (rights : List EndLeaf) (k : ℕ) (x : Join) : Type 0 where
  pub left : EndLeaf
  pub there : IsAt lefts k left
  pub joins : JoinsLeaf left_side left right_side rights x

-- the connectors at place k of two arrays
pub record JoinsElementAt (c : Connect) (k : ℕ) (x : Join) : Type 0 where
  pub left : List EndLeaf
  pub right : List EndLeaf
  pub left_there : IsAt c.left.elements k left
  pub right_there : IsAt c.right.elements k right
  pub at : ℕ
  pub joins : JoinsLeafAt c.left.side left c.right.side right at x

-- the connect at place k of a list
pub record JoinsConnectAt (connects : List Connect) (k : ℕ) (x : Join) : Type 0 where
  pub connect : Connect
  pub there : IsAt connects k connect
  pub at : ℕ
  pub joins : JoinsElementAt connect at x

-- at some place below n
pub record IsBefore {X : Type 0} (Q : ℕ → X → Type 0) (n : ℕ) (x : X) : Type 0 where
  pub at : ℕ
  pub small : at < n
  pub holds : Q at x
