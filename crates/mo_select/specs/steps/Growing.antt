-- Words on growing one assignment row by row, so that no assignment covers more of the first rows, however many.
use Rattle.std.specs.Prelude.{◌≡◌, ℕ, ◌≤◌, List}
use Rattle.std.proofs.Common.{get_or}
use Rattle.mo_graph.specs.Counting.{count_below}
use Rattle.mo_incidence.specs.Signature.{Signature, equations}
use Rattle.mo_incidence.specs.Assignment.{Assigns, IsAssignment}
use Rattle.mo_match.specs.Searching.{Bipartite, Uses, IsAssignedTo}

-- of the first n rows it covers as many as any assignment, for each n up to r
pub record CoversMost (E : ℕ → ℕ → Type 0) (m r : ℕ) (q : ℕ → ℕ) : Type 0 where
  pub most : (n : ℕ) → n ≤ r → (other : ℕ → ℕ) → Assigns E m other → count_below other n ≤ count_below q n

-- an assignment of rows that covers as many as any in each prefix of the rows
pub record IsGreedy (g : Signature) (q : ℕ → ℕ) : Type 0 where
  pub assigns : IsAssignment g q
  pub most : (n : ℕ) → n ≤ equations g → (other : ℕ → ℕ) → IsAssignment g other → count_below other n ≤ count_below q n

-- the rows before place r were tried in turn, and no others have an unknown
pub record IsGrownTo (b : Bipartite) (pairs owner queue parent mark : List ℕ) (base r : ℕ) : Type 0 where
  pub assigned : IsAssignedTo b pairs owner queue parent mark base r
  pub bare : (x : ℕ) → r ≤ x → get_or pairs x 0 ≡ 0
  pub most : CoversMost (Uses b) (equations b.signature) r (λ i. get_or pairs i 0)
