-- The least transversal: of all assignments of all equations by tight entries (highest-value transversals in J. D. Pryce, A simple
-- structural analysis method for DAEs, BIT 41, 2001) the one whose sequence of unknowns is lexicographically least.
use Rattle.std.specs.Prelude.{◌≡◌, ℕ, ◌<◌}
use Rattle.mo_incidence.specs.Signature.{Signature, equations}
use Rattle.mo_incidence.specs.Assignment.{Assigns, CoversAll}
use Rattle.mo_incidence.specs.Offsets.{IsTight}

-- at the first of m places where the two sequences differ, q is smaller than r
pub record Precedes (m : ℕ) (q r : ℕ → ℕ) : Type 0 where
  pub place : ℕ
  pub below : place < m
  pub same : (i : ℕ) → i < place → q i ≡ r i
  pub less : q place < r place

-- no assignment of all equations by tight entries precedes t
pub record IsLeastSequence (g : Signature) (c d t : ℕ → ℕ) : Type 0 where
  pub none : (q : ℕ → ℕ) → Assigns (IsTight g c d) (equations g) q → CoversAll g q → Precedes (equations g) q t → ⊥
