-- What contracts see of an incidence: Pryce's signature matrix, row by row. An entry is an unknown with the highest
-- order at which it stands in the equation (J. D. Pryce, A simple structural analysis method for DAEs, BIT 41, 2001).
-- Equations are named by their places, from 0, and unknowns by their numbers, from 1.
use Rattle.std.specs.Prelude.{ℕ, ◌+◌, ◌<◌, ◌≤◌, List, [], length}
use Rattle.std.proofs.Common.{get_or}
use Rattle.mo_graph.specs.Counting.{sum_below}

-- how many unknowns there are, and for each equation its entries
pub record Signature : Type 0 where
  pub unknowns : ℕ
  pub rows : List (List (ℕ × ℕ))

-- how many equations there are
unfoldable pub equations : Signature → ℕ
equations g = length g.rows

-- how many entries the equation at place i has
unfoldable pub row_len : Signature → ℕ → ℕ
row_len g i = length (get_or g.rows i [])

-- the unknown of the entry with k entries of its row before it
unfoldable pub unknown_at : Signature → ℕ → ℕ → ℕ
unknown_at g i k = (get_or (get_or g.rows i []) k (0, 0)).0

-- its order
unfoldable pub order_at : Signature → ℕ → ℕ → ℕ
order_at g i k = (get_or (get_or g.rows i []) k (0, 0)).1

-- how many entries there are
unfoldable pub entries : Signature → ℕ
entries g = sum_below (row_len g) (equations g)

-- the unknowns of each row are known and ascend, and nothing passes its limit
pub record IsSound (g : Signature) : Type 0 where
  pub known : (i k : ℕ) → i < equations g → k < row_len g i → (0 < unknown_at g i k) × (unknown_at g i k ≤ g.unknowns)
  pub ascending : (i k : ℕ) → i < equations g → k + 1 < row_len g i → unknown_at g i k < unknown_at g i (k + 1)
  pub low : (i k : ℕ) → i < equations g → k < row_len g i → order_at g i k < 65536
  pub few_equations : equations g ≤ 50000
  pub few_unknowns : g.unknowns ≤ 50000
  pub few_entries : entries g ≤ 1000000
