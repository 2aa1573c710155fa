-- Trees of unknowns as they were at a moment: words that only proofs need. Each unknown stands under its parent, itself at a root, since the
-- link at some place.
use Rattle.std.specs.Prelude.{ℕ, ◌<◌, ◌≤◌, Bool, false}
use Rattle.mo_alias.specs.Recognized.{sign_product}

-- before the equation at place t the root above u is r, with the product of the signs on the way
pub data Climbs (parent since : ℕ → ℕ) (minus : ℕ → Bool) (t : ℕ) : ℕ → ℕ → Bool → Type 0 where
  top : {u : ℕ} → t ≤ since u → Climbs parent since minus t u u false
  up : {u r : ℕ} {s : Bool} → since u < t → Climbs parent since minus t (parent u) r s → Climbs parent since minus t u r (sign_product (minus u) s)

-- what stands above is put there later
abbrev pub Rises : (parent since : ℕ → ℕ) → ℕ → Type 0
Rises parent since never = (u : ℕ) → since u < never → since u < since (parent u)
