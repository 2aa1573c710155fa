-- Words on raising the offsets of the equations that a search in vain has reached.
use Rattle.std.specs.Prelude.{◌≡◌, ℕ, ◌+◌, ◌-◌, ◌<◌, ◌≤◌, List}
use Rattle.std.proofs.Common.{get_or}
use Rattle.mo_incidence.specs.Counting.{sum_below, sign}
use Rattle.mo_incidence.specs.Signature.{Signature, equations}
use Rattle.mo_incidence.specs.Offsets.{by_place, by_number, BoundsOrders, sum_unknowns, Fits, IsBelowAll}
use Rattle.mo_match.specs.steps.Lists.{reached}

-- the offsets of the marked equations, and of their unknowns, are one higher
pub record AreRaised (m n : ℕ) (owner mark c d c' d' : List ℕ) : Type 0 where
  pub equation : (i : ℕ) → i < m → get_or c' i 0 ≡ get_or c i 0 + sign (get_or mark i 0)
  pub unknown : (j : ℕ) → 0 < j → j ≤ n → get_or d' (j - 1) 0 ≡ get_or d (j - 1) 0 + reached owner mark j

-- how far the sum of the unknowns' offsets is above that of the equations'
unfoldable pub gap : ℕ → ℕ → List ℕ → List ℕ → ℕ
gap m n c d = sum_below (by_place d) n - sum_below (by_place c) m

-- no offset has risen by more than the gap has fallen
pub record AreSmall (g : Signature) (c d : List ℕ) : Type 0 where
  pub equation : (h : ℕ → ℕ) → BoundsOrders g h → (i : ℕ) → i < equations g → get_or c i 0 + gap (equations g) g.unknowns c d ≤ sum_unknowns g h
  pub unknown : (h : ℕ → ℕ) → BoundsOrders g h → (u : ℕ) → u < g.unknowns → get_or d u 0 + gap (equations g) g.unknowns c d ≤ h (u + 1) + sum_unknowns g h

-- the offsets bound each entry, and no admissible ones are anywhere smaller
pub record AreRising (g : Signature) (c d : List ℕ) : Type 0 where
  pub fits : Fits g (by_place c) (by_number d)
  pub least : IsBelowAll g (by_place c) (by_number d)
  pub small : AreSmall g c d
