-- Parts of a chain that are still to be listed: words that only inner contracts need.
use Rattle.std.specs.Prelude.{◌≡◌, ℕ, zero, suc, ◌+◌, ◌-◌, ◌*◌, ◌<◌, ◌≤◌, ◌⊎◌, Bool, List, [], ◌∷◌, ◌++◌, Option, Contains, get_or, length}
use Rattle.std.specs.BTreeSet.{BTreeSet}
use Rattle.mo_graph.specs.steps.Placing.{Has}
use Rattle.mo_alias.specs.declared.alias.Alias.{Alias}
use Rattle.mo_alias.specs.declared.chain.Stretch.{Stretch}
use Rattle.mo_alias.specs.declared.trees.Trees.{Trees}
use Rattle.mo_alias.specs.Chains.{Chain, IsLinkBelow}
use Rattle.mo_alias.specs.steps.Forests.{HaveRoot}

-- no number twice
abbrev pub AreDistinct : List ℕ → Type 0
AreDistinct es = (j k : ℕ) → j < length es → k < length es → get_or es j 0 ≡ get_or es k 0 → j ≡ k

-- the links of a chain between two unknowns, no link twice
pub record IsStretch (said : List (Option Alias)) (stretch : Stretch) (links : List ℕ) : Type 0 where
  pub minus : Bool
  pub chain : Chain said (IsLinkBelow said stretch.below) stretch.one stretch.other minus links
  pub once : AreDistinct links

-- those of all of a list, one after another
pub data AreStretches (said : List (Option Alias)) : List Stretch → List ℕ → Type 0 where
  none : AreStretches said [] []
  more : {stretch : Stretch} {stretches : List Stretch} {links others : List ℕ} → IsStretch said stretch links → AreStretches said stretches others
      → AreStretches said (stretch ∷ stretches) (links ++ others)

-- a number of a set, or of one of these links
abbrev pub IsListed : BTreeSet ℕ → List ℕ → ℕ → Type 0
IsListed set links x = Has set x ⊎ (0 < x) × Contains links (x - 1)

-- the set with these links has what the other has with those
abbrev pub AreSame : BTreeSet ℕ → List ℕ → BTreeSet ℕ → List ℕ → Type 0
AreSame set links other those = (x : ℕ) → (IsListed set links x → IsListed other those x) × (IsListed other those x → IsListed set links x)

-- with what is to be listed of these stretches, all of a whole is
abbrev pub AreLeft : List (Option Alias) → Stretch → BTreeSet ℕ → List Stretch → BTreeSet ℕ → Type 0
AreLeft said whole old waiting set = (links : List ℕ) → AreStretches said waiting links → (all : List ℕ) × IsStretch said whole all × AreSame set links old all

-- its unknowns are in the trees, and joined by links among the first n equations
pub record IsOpen (t : Trees) (n : ℕ) (stretch : Stretch) : Type 0 where
  pub early : stretch.below ≤ n
  pub one : stretch.one < length t.parent.items
  pub other : stretch.other < length t.parent.items
  pub joined : HaveRoot t stretch.below stretch.one stretch.other

pub data AreOpen (t : Trees) (n : ℕ) : List Stretch → Type 0 where
  none : AreOpen t n []
  more : {stretch : Stretch} {stretches : List Stretch} → IsOpen t n stretch → AreOpen t n stretches → AreOpen t n (stretch ∷ stretches)

-- more than twice as much for each link more
abbrev pub weight_of : ℕ → ℕ
weight_of zero = 1
weight_of (suc n) = 3 * weight_of n

abbrev pub weight : List Stretch → ℕ
weight [] = 0
weight (stretch ∷ stretches) = weight_of stretch.below + weight stretches
