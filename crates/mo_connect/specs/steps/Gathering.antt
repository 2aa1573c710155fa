-- What is gathered for each set: the faces with one label, and what is declared of their variables.
use Rattle.std.specs.Prelude.{◌≡◌, ℕ, ◌*◌, ◌/◌, ◌==◌, ◌<◌, ◌&&◌, not, Bool, true, false, List, [], ◌∷◌, ◌++◌, Option, Some, None, length, slice_index_or, if◌then◌else◌}
use Rattle.std.proofs.Common.{get_or, zero, suc}
use Rattle.mo_syntax.specs.declared.place.Place.{Place}
use Rattle.mo_flat.specs.declared.connect.FaceSet.{FaceSet}
use Rattle.mo_connect.specs.declared.joins.Face.{Face}
use Rattle.mo_connect.specs.declared.joins.Join.{Join}
use Rattle.mo_connect.specs.declared.declared.Declared.{Declared}
use Rattle.mo_connect.specs.Joins.{IsAt}
use Rattle.mo_connect.specs.steps.Labels.{face_at, AreBelow, AreFlowsBelow, AreLabels}

abbrev pub told_by_face : Face → Declared
told_by_face face = record { flow = face.flow; place = face.place; listed = false }

abbrev pub told_by_flow : ℕ × Place → Declared
told_by_flow flow = record { flow = true; place = flow.1; listed = true }

-- where a declaration comes from
pub data IsTold (joins : List Join) (flows : List (ℕ × Place)) (variable : ℕ) (d : Declared) : Type 0 where
  left : (k : ℕ) (x : Join) → IsAt joins k x → x.left.variable ≡ variable → told_by_face x.left ≡ d → IsTold joins flows variable d
  right : (k : ℕ) (x : Join) → IsAt joins k x → x.right.variable ≡ variable → told_by_face x.right ≡ d → IsTold joins flows variable d
  flow : (k : ℕ) (f : ℕ × Place) → IsAt flows k f → f.0 ≡ variable → told_by_flow f ≡ d → IsTold joins flows variable d

pub record IsKnown (table : List (Option Declared)) (variable : ℕ) : Type 0 where
  pub declared : Declared
  pub is : slice_index_or table variable None ≡ Some declared

pub record IsListed (table : List (Option Declared)) (variable : ℕ) : Type 0 where
  pub declared : Declared
  pub is : slice_index_or table variable None ≡ Some declared
  pub listed : declared.listed ≡ true

-- the table has what the first joins and the first flow leaves tell, and nothing else
pub record IsTable (size : ℕ) (joins : List Join) (flows : List (ℕ × Place)) (j f : ℕ) (table : List (Option Declared)) : Type 0 where
  pub length_is : length table ≡ size
  pub left : (k : ℕ) (d : Join) → k < j → IsKnown table (slice_index_or joins k d).left.variable
  pub right : (k : ℕ) (d : Join) → k < j → IsKnown table (slice_index_or joins k d).right.variable
  pub flow : (k : ℕ) (d : ℕ × Place) → k < f → IsListed table (slice_index_or flows k d).0
  pub only : (v : ℕ) (d : Declared) → slice_index_or table v None ≡ Some d → IsTold joins flows v d

-- the faces below number n that have this label, by their numbers
abbrev pub labelled : List ℕ → ℕ → ℕ → List (ℕ × Bool)
labelled labels label zero = []
labelled labels label (suc n) = if get_or labels n 0 == label then labelled labels label n ++ face_at n ∷ [] else labelled labels label n

abbrev pub set_with : List (ℕ × Bool) → Declared → FaceSet
set_with members d = record { flow = d.flow; place = d.place; members = members }

-- two or more faces are a set, and so is the inside face of a listed flow leaf alone
abbrev pub set_from : List (ℕ × Bool) → Option Declared → List FaceSet
set_from (a ∷ b ∷ more) (Some d) = set_with (a ∷ b ∷ more) d ∷ []
set_from (a ∷ []) (Some d) = if not a.1 && d.listed then set_with (a ∷ []) d ∷ [] else []
set_from [] _ = []
set_from _ None = []

-- the sets of the first n labels
abbrev pub sets_below : List ℕ → List (Option Declared) → ℕ → List FaceSet
sets_below labels table zero = []
sets_below labels table (suc n) = sets_below labels table n ++ set_from (labelled labels n (length labels)) (slice_index_or table (n / 2) None)

-- the sets that labels and a table of these joins give
pub record AreGathered (joins : List Join) (flows : List (ℕ × Place)) (sets : List FaceSet) : Type 0 where
  pub bound : ℕ
  pub labels : List ℕ
  pub table : List (Option Declared)
  pub below : AreBelow bound joins
  pub flows_below : AreFlowsBelow bound flows
  pub labels_are : AreLabels (2 * bound) joins labels
  pub table_is : IsTable bound joins flows (length joins) (length flows) table
  pub is : sets ≡ sets_below labels table (length labels)
