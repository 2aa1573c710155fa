-- Evidence that no assignment covers all equations: equations that together mention fewer unknowns than they are (P. Hall, On
-- representatives of subsets, J. London Math. Soc. 10, 1935).
use Rattle.std.specs.Prelude.{◌≡◌, ℕ, ◌-◌, ◌<◌, List, length}
use Rattle.std.proofs.Common.{get_or, suc}
use Rattle.mo_incidence.specs.Signature.{Signature, equations}
use Rattle.mo_incidence.specs.Assignment.{Mentions}

-- the numbers are from 1 up to below the bound, and no two are the same
pub record AreDistinctBelow (xs : List ℕ) (bound : ℕ) : Type 0 where
  pub in_range : (i : ℕ) → i < length xs → (0 < get_or xs i 0) × (get_or xs i 0 < bound)
  pub apart : (i k : ℕ) → i < length xs → k < length xs → get_or xs i 0 ≡ get_or xs k 0 → i ≡ k

-- some listed equation mentions unknown j
unfoldable pub IsMentionedBy : Signature → List ℕ → ℕ → Type 0
IsMentionedBy g xs j = (i : ℕ) × (i < length xs) × Mentions g (get_or xs i 0 - 1) j

-- unknown j is listed
unfoldable pub IsListed : List ℕ → ℕ → Type 0
IsListed xs j = (i : ℕ) × (i < length xs) × (get_or xs i 0 ≡ j)

-- the listed equations are distinct and known, the listed unknowns are those that they mention, each once, and there are fewer of them
pub record IsDeficiency (g : Signature) (deficient mentioned : List ℕ) : Type 0 where
  pub equations_known : AreDistinctBelow deficient (suc (equations g))
  pub once : AreDistinctBelow mentioned (suc g.unknowns)
  pub all : (j : ℕ) → IsMentionedBy g deficient j → IsListed mentioned j
  pub only : (j : ℕ) → IsListed mentioned j → IsMentionedBy g deficient j
  pub fewer : length mentioned < length deficient
