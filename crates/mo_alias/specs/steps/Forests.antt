-- Trees of unknowns as the code holds them: words that only its inner contracts need.
use Rattle.std.specs.Prelude.{◌≡◌, ℕ, ◌<◌, ◌≤◌, Bool, false, List, Option, Some, None, get_or, length, set}
use Rattle.mo_alias.specs.declared.alias.Alias.{Alias}
use Rattle.mo_alias.specs.declared.trees.Latest.{Latest}
use Rattle.mo_alias.specs.declared.trees.Trees.{Trees}
use Rattle.mo_alias.specs.Chains.{IsLink, Says}
use Rattle.mo_alias.specs.steps.Climbing.{Climbs, Rises}
use Rattle.mo_alias.specs.steps.Marking.{IsMarked}

-- the place at a root
abbrev pub never : ℕ
never = 18446744073709551615

module _ (t : Trees) where
  abbrev pub parent_in : ℕ → ℕ
  parent_in u = get_or t.parent.items u u

  abbrev pub since_in : ℕ → ℕ
  since_in u = get_or t.since.items u 18446744073709551615

  abbrev pub minus_in : ℕ → Bool
  minus_in u = get_or t.minus.items u false

  abbrev pub ends_in : ℕ → ℕ × ℕ
  ends_in u = get_or t.ends.items u (0, 0)

  -- before the equation at a place the root above an unknown, with its sign
  abbrev pub Reaches : ℕ → ℕ → ℕ → Bool → Type 0
  Reaches = Climbs parent_in since_in minus_in

  -- two unknowns have one root before the equation at a place
  pub record HaveRoot (at u v : ℕ) : Type 0 where
    pub root : ℕ
    pub sign : Bool
    pub other_sign : Bool
    pub above : Reaches at u root sign
    pub other_above : Reaches at v root other_sign

  -- tables of one length, parents in them, and what stands above was put there later
  pub record AreTrees : Type 0 where
    pub minus_size : length t.minus.items ≡ length t.parent.items
    pub since_size : length t.since.items ≡ length t.parent.items
    pub ends_size : length t.ends.items ≡ length t.parent.items
    pub height_size : length t.height.items ≡ length t.parent.items
    pub inside : (u : ℕ) → u < length t.parent.items → parent_in u < length t.parent.items
    pub rises : Rises parent_in since_in 18446744073709551615
    pub low : (u : ℕ) → since_in u ≤ 18446744073709551615

  -- a link puts one unknown under another
  abbrev pub AreOnce : Type 0
  AreOnce = (u v : ℕ) → since_in u < 18446744073709551615 → since_in u ≡ since_in v → u ≡ v

-- one tree was put under another
pub record IsPut (t new : Trees) (low high : ℕ) (minus : Bool) (at near far : ℕ) : Type 0 where
  pub parents : new.parent.items ≡ set t.parent.items low high
  pub signs : new.minus.items ≡ set t.minus.items low minus
  pub places : new.since.items ≡ set t.since.items low at
  pub sides : new.ends.items ≡ set t.ends.items low (near, far)
  pub heights : length new.height.items ≡ length t.height.items

-- the latest link of the chain between two unknowns is that of an unknown u: the first reaches u and the second what stands above it, or
-- the other way round
pub data IsLatest (t : Trees) (one other : ℕ) (latest : Latest) : Type 0 where
  first : (u : ℕ) (s z : Bool) → since_in t u ≡ latest.at → latest.at < 18446744073709551615 → (ends_in t u).0 ≡ latest.near → (ends_in t u).1 ≡ latest.far
      → Reaches t latest.at one u s → Reaches t latest.at other (parent_in t u) z → IsLatest t one other latest
  second : (u : ℕ) (s z : Bool) → since_in t u ≡ latest.at → latest.at < 18446744073709551615 → (ends_in t u).1 ≡ latest.near → (ends_in t u).0 ≡ latest.far
      → Reaches t latest.at one (parent_in t u) s → Reaches t latest.at other u z → IsLatest t one other latest

-- what stands above each of two unknowns after some steps up
pub record LatestTo (t : Trees) (one other a b : ℕ) (last : Latest) : Type 0 where
  pub one_inside : a < length t.parent.items
  pub other_inside : b < length t.parent.items
  pub at : ℕ
  pub sign : Bool
  pub other_sign : Bool
  pub one_low : at ≤ since_in t a
  pub other_low : at ≤ since_in t b
  pub one_side : Reaches t at one a sign
  pub other_side : Reaches t at other b other_sign
  pub joined : HaveRoot t 18446744073709551615 a b
  pub latest : a ≡ b → IsLatest t one other last

module _ (said : List (Option Alias)) where
  -- alias equations are between unknowns below a number
  abbrev pub AreWithin : ℕ → Type 0
  AreWithin size = (e : ℕ) (a : Alias) → get_or said e None ≡ Some a → (a.left < size) × (a.right < size)

  module _ (t : Trees) where
    -- the link by which an unknown was put under another, with its ends on the sides of both
    pub record IsLinked (u : ℕ) : Type 0 where
      pub link : IsLink said (since_in t u)
      pub minus : Bool
      pub says : Says said (since_in t u) (ends_in t u).0 (ends_in t u).1 minus
      pub sign : Bool
      pub near : Reaches t (since_in t u) (ends_in t u).0 u sign
      pub other_sign : Bool
      pub far : Reaches t (since_in t u) (ends_in t u).1 (parent_in t u) other_sign

    -- the roots before the equation at a place are those by which joined unknowns are known
    pub record AreRooted (at : ℕ) : Type 0 where
      pub root : ℕ → ℕ
      pub sign : ℕ → Bool
      pub marked : IsMarked said at root sign
      pub climbs : (u : ℕ) → Reaches t at u (root u) (sign u)

    -- the trees of the first n equations
    pub record IsForest (n : ℕ) : Type 0 where
      pub early : n ≤ 18446744073709551615
      pub trees : AreTrees t
      pub once : AreOnce t
      pub before : (u : ℕ) → since_in t u < 18446744073709551615 → since_in t u < n
      pub linked : (u : ℕ) → since_in t u < 18446744073709551615 → IsLinked u
      pub rooted : (at : ℕ) → at ≤ n → AreRooted at
