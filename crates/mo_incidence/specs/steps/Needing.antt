-- Words on listing which equations need which.
use Rattle.std.specs.Prelude.{◌≡◌, ℕ, ◌+◌, ◌<◌, ◌≤◌, List, length}
use Rattle.std.proofs.Common.{get_or, suc}
use Rattle.mo_graph.specs.Counting.{sum_below}
use Rattle.mo_graph.specs.Edges.{Edge}
use Rattle.mo_incidence.specs.Signature.{Signature, equations, row_len, unknown_at, order_at}
use Rattle.mo_incidence.specs.Blocks.{Needs}

-- its entry k makes the equation at place i need the one at place x
pub record IsNeed (g : Signature) (c d t : ℕ → ℕ) (i k x : ℕ) : Type 0 where
  pub unknown : unknown_at g i k ≡ t x
  pub tight : d (t x) ≡ c i + order_at g i k

-- `owner` tells for each unknown one more than the place of its equation, or 0
pub record AreOwners (m : ℕ) (t : ℕ → ℕ) (owner : List ℕ) : Type 0 where
  pub owned : (i : ℕ) → i < m → get_or owner (t i) 0 ≡ suc i
  pub owns : (j x : ℕ) → get_or owner j 0 ≡ suc x → (x < m) × (t x ≡ j)

-- the edges are needs, and have all those of the rows before i and of the first `upto` entries of row i
pub record HasNeeds (g : Signature) (c d t : ℕ → ℕ) (sources targets : List ℕ) (i upto : ℕ) : Type 0 where
  pub same : length targets ≡ length sources
  pub only : (x : ℕ) → x < length sources → Needs g c d t (get_or sources x 0) (get_or targets x 0)
  pub rows : (r k v : ℕ) → r < i → k < row_len g r → v < equations g → IsNeed g c d t r k v → Edge sources targets r v
  pub here : (k v : ℕ) → k < upto → v < equations g → IsNeed g c d t i k v → Edge sources targets i v
  pub few : length sources ≤ sum_below (row_len g) i + upto
