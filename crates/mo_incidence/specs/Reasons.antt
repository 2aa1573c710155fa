-- Why equations have to be differentiated. c and t go by the places of equations, d by the numbers of unknowns; t gives each
-- equation its unknown, at which it is tight.
use Rattle.std.specs.Prelude.{◌≡◌, ◌≢◌, ℕ, ◌+◌, ◌<◌, ◌≤◌, ◌⊎◌, ◌==◌, if◌then◌else◌, List, [], ◌∷◌, ◌++◌}
use Rattle.std.proofs.Common.{zero, suc}
use Rattle.mo_incidence.specs.declared.findings.Reason.{Reason}
use Rattle.mo_incidence.specs.Signature.{Signature, equations, unknown_at, order_at}
use Rattle.mo_incidence.specs.Offsets.{IsTight, after_reasons}

-- the equation at place k is another one that is tight at the unknown of the equation at place i
pub record IsCandidate (g : Signature) (c d t : ℕ → ℕ) (i k : ℕ) : Type 0 where
  pub known : k < equations g
  pub other : k ≢ i
  pub tight : IsTight g c d k (t i)

-- its entry n makes the equation at place k a candidate for the one at place i
pub record LeadsTo (g : Signature) (c d t : ℕ → ℕ) (k n i : ℕ) : Type 0 where
  pub apart : k ≢ i
  pub unknown : unknown_at g k n ≡ t i
  pub tight : d (t i) ≡ c k + order_at g k n

-- at most n steps to candidates lead from the equation at place i to one with an offset of 0
abbrev pub IsWithin : Signature → (ℕ → ℕ) → (ℕ → ℕ) → (ℕ → ℕ) → ℕ → ℕ → Type 0
IsWithin g c d t zero i = c i ≡ 0
IsWithin g c d t (suc n) i = (c i ≡ 0) ⊎ ((k : ℕ) × IsCandidate g c d t i k × IsWithin g c d t n k)

-- how many steps it takes at least
pub record IsRank (g : Signature) (c d t : ℕ → ℕ) (i n : ℕ) : Type 0 where
  pub within : IsWithin g c d t n i
  pub least : (m : ℕ) → IsWithin g c d t m i → n ≤ m

-- the candidate of least rank, and of these the one with the least number
pub record IsReason (g : Signature) (c d t : ℕ → ℕ) (i k : ℕ) : Type 0 where
  pub candidate : IsCandidate g c d t i k
  pub rank : ℕ
  pub is_rank : IsRank g c d t k rank
  pub first : (k' n : ℕ) → IsCandidate g c d t i k' → IsRank g c d t k' n → (rank < n) ⊎ ((rank ≡ n) × (k ≤ k'))

-- one for each equation before place n with an offset above 0, in order; r gives the places of the reasons
abbrev pub listed_reasons : (c r : ℕ → ℕ) → ℕ → List Reason
listed_reasons c r zero = []
listed_reasons c r (suc n) = if c n == 0 then listed_reasons c r n else listed_reasons c r n ++ record { equation = suc n; from = suc (r n) } ∷ []

-- the list has a reason for each equation with an offset above 0, in order, and following reasons ends at an offset of 0
pub record AreReasonsOf (g : Signature) (c d t : ℕ → ℕ) (reasons : List Reason) : Type 0 where
  pub by : ℕ → ℕ
  pub reason : (i : ℕ) → i < equations g → c i ≢ 0 → IsReason g c d t i (by i)
  pub listed : reasons ≡ listed_reasons c by (equations g)
  pub ends : (i : ℕ) → i < equations g → (n : ℕ) × (c (after_reasons by n i) ≡ 0)
