-- Words on a forest over the numbers below a length: `parent` gives for each number one of its tree that is not greater, and
-- a root gives itself.
use Rattle.std.specs.Prelude.{◌≡◌, ℕ, ◌<◌, ◌≤◌, List, length}
use Rattle.std.proofs.Common.{get_or}

abbrev pub IsForest : List ℕ → Type 0
IsForest parent = (i : ℕ) → i < length parent → get_or parent i 0 ≤ i

-- up the tree, any number of steps
pub data Climbs (parent : List ℕ) : ℕ → ℕ → Type 0 where
  here : {i : ℕ} → Climbs parent i i
  up : {i : ℕ} → i < length parent → Climbs parent i (get_or parent i 0)
  chain : {i j k : ℕ} → Climbs parent i j → Climbs parent j k → Climbs parent i k

-- f is the same all over each tree
abbrev pub IsConstant : List ℕ → (ℕ → ℕ) → Type 0
IsConstant parent f = (i : ℕ) → i < length parent → f i ≡ f (get_or parent i 0)

-- the trees are the same, with some paths shortened
pub record Shortens (old new : List ℕ) : Type 0 where
  pub size : length new ≡ length old
  pub forest : IsForest new
  pub climbs : (i : ℕ) → i < length old → Climbs old i (get_or new i 0)
  pub constant : (f : ℕ → ℕ) → IsConstant new f → IsConstant old f

-- in the trees of `parent`, with a and b put into one
pub data IsLinked (parent : List ℕ) (a b : ℕ) : ℕ → ℕ → Type 0 where
  climbs : {i j : ℕ} → Climbs parent i j → IsLinked parent a b i j
  pair : IsLinked parent a b a b
  back : {i j : ℕ} → IsLinked parent a b i j → IsLinked parent a b j i
  chain : {i j k : ℕ} → IsLinked parent a b i j → IsLinked parent a b j k → IsLinked parent a b i k

-- the trees of a and b became one
pub record Unites (a b : ℕ) (old new : List ℕ) : Type 0 where
  pub size : length new ≡ length old
  pub forest : IsForest new
  pub linked : (i : ℕ) → i < length old → IsLinked old a b i (get_or new i 0)
  pub constant : (f : ℕ → ℕ) → IsConstant new f → IsConstant old f
  pub same : (f : ℕ → ℕ) → IsConstant new f → f a ≡ f b

-- each number below n gives its root
abbrev pub IsFlatBelow : ℕ → List ℕ → Type 0
IsFlatBelow n parent = (i : ℕ) → i < n → get_or parent (get_or parent i 0) 0 ≡ get_or parent i 0
