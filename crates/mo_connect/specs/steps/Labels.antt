-- Labels of faces: each face has a number, and joined faces have one label, the least of their numbers.
use Rattle.std.specs.Prelude.{◌≡◌, ℕ, ◌/◌, ◌%◌, ◌==◌, ◌<◌, Bool, List, length, slice_index_or}
use Rattle.std.proofs.Common.{get_or}
use Rattle.mo_syntax.specs.declared.place.Place.{Place}
use Rattle.mo_connect.specs.declared.joins.Face.{Face}
use Rattle.mo_connect.specs.declared.joins.Join.{Join}
use Rattle.mo_connect.specs.Joins.{IsAt, number_of}
use Rattle.mo_connect.specs.steps.Forest.{IsForest, IsConstant, IsFlatBelow}

abbrev pub face_at : ℕ → ℕ × Bool
face_at n = (n / 2, n % 2 == 1)

abbrev pub number_in : Face → ℕ
number_in face = number_of (face.variable, face.outside)

-- linked by a chain of joins
pub data IsChained (joins : List Join) : ℕ → ℕ → Type 0 where
  same : {i : ℕ} → IsChained joins i i
  join : (k : ℕ) (x : Join) → IsAt joins k x → IsChained joins (number_in x.left) (number_in x.right)
  back : {i j : ℕ} → IsChained joins i j → IsChained joins j i
  chain : {i j k : ℕ} → IsChained joins i j → IsChained joins j k → IsChained joins i k

-- all faces have variables below a bound
abbrev pub AreBelow : ℕ → List Join → Type 0
AreBelow bound joins = (k : ℕ) (d : Join) → k < length joins → ((slice_index_or joins k d).left.variable < bound) × ((slice_index_or joins k d).right.variable < bound)

abbrev pub AreFlowsBelow : ℕ → List (ℕ × Place) → Type 0
AreFlowsBelow bound flows = (k : ℕ) (d : ℕ × Place) → k < length flows → (slice_index_or flows k d).0 < bound

pub record AreLabels (size : ℕ) (joins : List Join) (labels : List ℕ) : Type 0 where
  pub length_is : length labels ≡ size
  pub low : IsForest labels
  pub flat : IsFlatBelow size labels
  pub sound : (i : ℕ) → i < size → IsChained joins i (get_or labels i 0)
  pub complete : (k : ℕ) (d : Join) → k < length joins
      → get_or labels (number_in (slice_index_or joins k d).left) 0 ≡ get_or labels (number_in (slice_index_or joins k d).right) 0

-- the faces of the first joins are in common trees, and trees have only chained faces
pub record AreUnited (joins : List Join) (upto : ℕ) (parent : List ℕ) : Type 0 where
  pub forest : IsForest parent
  pub sound : (i : ℕ) → i < length parent → IsChained joins i (get_or parent i 0)
  pub complete : (f : ℕ → ℕ) → IsConstant parent f → (k : ℕ) (d : Join) → k < upto
      → f (number_in (slice_index_or joins k d).left) ≡ f (number_in (slice_index_or joins k d).right)
