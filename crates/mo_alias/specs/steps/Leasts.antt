-- Unknowns and the least of their trees: words that only inner contracts need.
use Rattle.std.specs.Prelude.{◌≡◌, ℕ, ◌<◌, ◌≤◌, Bool, List, Option, Some, None, Contains, length, get_or, map}
use Rattle.std.specs.List.Sorted.{IsStrictlyIncreasing}
use Rattle.mo_alias.specs.declared.found.Gone.{Gone}
use Rattle.mo_alias.specs.declared.trees.Trees.{Trees}
use Rattle.mo_alias.specs.steps.Forests.{Reaches}
use Rattle.mo_alias.specs.Recognized.{sign_product}

-- the roots of all unknowns, with their signs
abbrev pub AreRoots : Trees → (ℕ → ℕ) → (ℕ → Bool) → Type 0
AreRoots t root sign = (u : ℕ) → Reaches t 18446744073709551615 u (root u) (sign u)

module _ (root : ℕ → ℕ) (sign : ℕ → Bool) where
  -- the first unknown of a tree, another one, and the product of their signs
  pub record IsGoneFrom (g : Gone) : Type 0 where
    pub lesser : g.of < g.unknown
    pub together : root g.unknown ≡ root g.of
    pub signs : g.minus ≡ sign_product (sign g.unknown) (sign g.of)
    pub least : (v : ℕ) → v < g.unknown → root v ≡ root g.unknown → g.of ≤ v

  -- of the unknowns below n all but the first of each tree
  pub record AreGoneBelow (n : ℕ) (gone : List Gone) : Type 0 where
    pub ascending : IsStrictlyIncreasing (map (λ g. g.unknown) gone)
    pub below : (u : ℕ) → Contains (map (λ g. g.unknown) gone) u → u < n
    pub only : (g : Gone) → Contains gone g → IsGoneFrom g
    pub all : (u v : ℕ) → v < u → u < n → root u ≡ root v → Contains (map (λ g. g.unknown) gone) u

  -- the first unknown below n of a tree, with its sign, or that none is there
  abbrev pub IsFirst : ℕ → ℕ → Option (ℕ × Bool) → Type 0
  IsFirst n r None = (u : ℕ) → u < n → root u ≡ r → ⊥
  IsFirst n r (Some (of, minus)) = (of < n) × (root of ≡ r) × (sign of ≡ minus) × ((u : ℕ) → u < n → root u ≡ r → of ≤ u)

  -- by the numbers of roots
  abbrev pub AreFirst : ℕ → List (Option (ℕ × Bool)) → Type 0
  AreFirst n firsts = (r : ℕ) → r < length firsts → IsFirst n r (get_or firsts r None)

  abbrev pub AreSplit : ℕ → List (Option (ℕ × Bool)) → List Gone → Type 0
  AreSplit n firsts gone = AreFirst n firsts × AreGoneBelow n gone
