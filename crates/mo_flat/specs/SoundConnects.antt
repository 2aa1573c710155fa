-- When connects are sound: what each call that is handed some may take for granted (Modelica Language Specification 3.5,
-- section 9.3).
use Rattle.std.specs.Prelude.{◌≡◌, ◌≢◌, ℕ, ◌<◌, true, List, [], length, slice_index_or, All}
use Rattle.mo_syntax.specs.declared.place.Place.{Place}
use Rattle.mo_flat.specs.declared.connect.Connects.{Connects}
use Rattle.mo_flat.specs.declared.connect.Connect.{Connect}
use Rattle.mo_flat.specs.declared.connect.End.{End}
use Rattle.mo_flat.specs.declared.connect.EndLeaf.{EndLeaf}
use Rattle.mo_flat.specs.declared.connect.Side.TheVariants.{Neither}
use Rattle.mo_flat.specs.SoundArray.{element_count}

-- the element of a list at place k, from 0
pub record IsAt {X : Type 0} (xs : List X) (k : ℕ) (x : X) : Type 0 where
  pub within : k < length xs
  pub is : slice_index_or xs k x ≡ x

-- no two leaves of a connector have the same name below it
abbrev pub AreDistinct : List EndLeaf → Type 0
AreDistinct leaves = (j k : ℕ) (a b : EndLeaf) → IsAt leaves j a → IsAt leaves k b → a.below ≡ b.below → j ≡ k

-- as many elements as the dimensions say, and none where the end is no connector
pub record IsSoundEnd (end : End) : Type 0 where
  pub none : end.side ≡ Neither → end.elements ≡ []
  pub full : end.side ≢ Neither → length end.elements ≡ element_count end.dims
  pub distinct : All AreDistinct end.elements

pub record IsSoundConnect (c : Connect) : Type 0 where
  pub left : IsSoundEnd c.left
  pub right : IsSoundEnd c.right

-- a leaf of an end
pub record IsLeafOf (end : End) (leaf : EndLeaf) : Type 0 where
  pub at : ℕ
  pub element : List EndLeaf
  pub there : IsAt end.elements at element
  pub number : ℕ
  pub is : IsAt element number leaf

-- a leaf of some end
pub data IsLeafIn (c : Connects) (leaf : EndLeaf) : Type 0 where
  left : (k : ℕ) (x : Connect) → IsAt c.list k x → IsLeafOf x.left leaf → IsLeafIn c leaf
  right : (k : ℕ) (x : Connect) → IsAt c.list k x → IsLeafOf x.right leaf → IsLeafIn c leaf

-- flow leaves ascend by their variables
abbrev pub Ascends : List (ℕ × Place) → Type 0
Ascends flows = (j k : ℕ) (a b : ℕ × Place) → IsAt flows j a → IsAt flows k b → j < k → a.0 < b.0

-- a leaf is a flow exactly where its variable is listed, with the same place
pub record IsListedAsFlow (flows : List (ℕ × Place)) (leaf : EndLeaf) : Type 0 where
  pub listed : leaf.flow ≡ true → (k : ℕ) × IsAt flows k (leaf.variable, leaf.place)
  pub only : (k : ℕ) (place : Place) → IsAt flows k (leaf.variable, place) → (leaf.flow ≡ true) × (leaf.place ≡ place)

pub record IsSoundConnects (c : Connects) : Type 0 where
  pub connects : All IsSoundConnect c.list
  pub ascends : Ascends c.flows
  pub flows : (leaf : EndLeaf) → IsLeafIn c leaf → IsListedAsFlow c.flows leaf
  -- all leaves of one variable have one place
  pub places : (a b : EndLeaf) → IsLeafIn c a → IsLeafIn c b → a.variable ≡ b.variable → a.place ≡ b.place
