-- The blocks of a directed graph, its strongly connected components, in an order in which what a block needs stands before it
-- (I. S. Duff and J. K. Reid, An implementation of Tarjan's algorithm for the block triangularization of a matrix, ACM Trans. Math.
-- Softw. 4, 1978). Vertices are named by their places, from 0; a block lists their numbers, from 1. An edge says that its source needs
-- its target.
use Rattle.std.specs.Prelude.{ℕ, ◌-◌, ◌<◌, ◌≤◌, ◌⊎◌, List, [], length, take, map, Contains, Vec}
use Rattle.std.specs.Global.{Global}
use Rattle.std.proofs.Common.{get_or, suc}
use Rattle.mo_graph.specs.Lists.{ListsWhere}

-- a chain of steps leads from u to v
pub data Leads (Step : ℕ → ℕ → Type 0) : ℕ → ℕ → Type 0 where
  none : {u : ℕ} → Leads Step u u
  step : {u v w : ℕ} → Step u v → Leads Step v w → Leads Step u w

-- number x stands in one of the blocks
abbrev pub IsPlaced : List (List ℕ) → ℕ → Type 0
IsPlaced blocks x = (b : ℕ) × (b < length blocks) × Contains (get_or blocks b []) x

module _ (Need : ℕ → ℕ → Type 0) (m : ℕ) where
  -- the list is a class of vertices that need each other through chains: ascending, the numbers of all those that one of them needs
  -- and that need it
  abbrev pub IsBlock : List ℕ → Type 0
  IsBlock block = (i : ℕ) × (i < m) × ListsWhere (λ x. Leads Need i (x - 1) × Leads Need (x - 1) i) m block

  -- the block is none of those before, and what its vertices need stands in it or before
  pub record IsReady (before : List (List ℕ)) (block : List ℕ) : Type 0 where
    pub is_block : IsBlock block
    pub unplaced : (x : ℕ) → Contains block x → IsPlaced before x → ⊥
    pub met : (i k : ℕ) → Contains block (suc i) → Need i k → Contains block (suc k) ⊎ IsPlaced before (suc k)

  -- of the blocks that are ready, it is the one with the least number
  pub record IsNext (before : List (List ℕ)) (block : List ℕ) : Type 0 where
    pub ready : IsReady before block
    pub least : (other : List ℕ) → IsReady before other → get_or block 0 0 ≤ get_or other 0 0

  -- each list is the next block after those before, and every vertex stands in one
  pub record IsInOrder (blocks : List (List ℕ)) : Type 0 where
    pub next : (b : ℕ) → b < length blocks → IsNext (take b blocks) (get_or blocks b [])
    pub all : (x : ℕ) → 0 < x → x ≤ m → IsPlaced blocks x

-- the numbers of lists that are held in vectors
abbrev pub numbers_in : List (Vec ℕ Global) → List (List ℕ)
numbers_in lists = map (λ list. list.items) lists
