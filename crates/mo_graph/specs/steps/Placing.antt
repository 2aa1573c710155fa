-- Vertices in an order in which edges lead back, the least first. Of the vertices, those count that are their own leaders.
use Rattle.std.specs.Prelude.{◌≡◌, ◌≢◌, ℕ, ◌-◌, ◌<◌, ◌≤◌, ◌⊎◌, ◌==◌, if◌then◌else◌, IsTrue, List, length}
use Rattle.std.specs.BTreeSet.{BTreeSet, contains}
use Rattle.std.specs.Ordering.{nat_cmp}
use Rattle.std.proofs.Common.{get_or, suc}
use Rattle.mo_graph.specs.Counting.{sum_below}

-- y where the two numbers are the same
abbrev pub where_same : ℕ → ℕ → ℕ → ℕ
where_same k b y = if k == b then y else 0

-- how many of the first n edges, which are open where the function is 1, come from vertex b
unfoldable pub waiting : List ℕ → (ℕ → ℕ) → ℕ → ℕ → ℕ
waiting sources open_at n b = sum_below (λ x. where_same (get_or sources x 0) b (open_at x)) n

-- 1 where an edge leads to another vertex
abbrev pub leads_away : List ℕ → List ℕ → ℕ → ℕ
leads_away sources targets x = if get_or sources x 0 == get_or targets x 0 then 0 else 1

-- v is in the set
unfoldable pub Has : BTreeSet ℕ → ℕ → Type 0
Has set v = IsTrue (contains nat_cmp set v)

-- the set has the vertices below n that are their own leaders and wait for nothing
pub record HasReady (leader waits : List ℕ) (n : ℕ) (set : BTreeSet ℕ) : Type 0 where
  pub only : (v : ℕ) → Has set v → (v < n) × (get_or leader v 0 ≡ v) × (get_or waits v 0 ≡ 0)
  pub all : (v : ℕ) → v < n → get_or leader v 0 ≡ v → get_or waits v 0 ≡ 0 → Has set v

-- `order` has `count` vertices, and `placed` is one more than a vertex's place there, or 0. Other vertices that these lead to stand
-- before them, and each is the least of those that could stand at its place.
pub record IsOrdered (m : ℕ) (sources targets leader order placed : List ℕ) (count : ℕ) : Type 0 where
  pub order_in : (s : ℕ) → s < count → (get_or order s 0 < m) × (get_or leader (get_or order s 0) 0 ≡ get_or order s 0) × (get_or placed (get_or order s 0) 0 ≡ suc s)
  pub placed_in : (v : ℕ) → get_or placed v 0 ≢ 0 → (get_or placed v 0 ≤ count) × (get_or order (get_or placed v 0 - 1) 0 ≡ v)
  pub met : (s x : ℕ) → s < count → x < length sources → get_or sources x 0 ≡ get_or order s 0 → get_or sources x 0 ≢ get_or targets x 0
      → (get_or placed (get_or targets x 0) 0 ≢ 0) × (get_or placed (get_or targets x 0) 0 ≤ s)
  pub least : (s v : ℕ) → s < count → v < m → get_or leader v 0 ≡ v → (get_or placed v 0 ≢ 0 → s < get_or placed v 0)
      → ((x : ℕ) → x < length sources → get_or sources x 0 ≡ v → get_or sources x 0 ≢ get_or targets x 0
      → (get_or placed (get_or targets x 0) 0 ≢ 0) × (get_or placed (get_or targets x 0) 0 ≤ s))
      → get_or order s 0 ≤ v

-- and all have been placed
pub record AreOrdered (m : ℕ) (sources targets leader order placed : List ℕ) (count : ℕ) : Type 0 where
  pub ordered : IsOrdered m sources targets leader order placed count
  pub all : (v : ℕ) → v < m → get_or leader v 0 ≡ v → get_or placed v 0 ≢ 0

-- An edge is open until the vertex that it leads to has been placed and the edge was looked at; those to `awake`, which was placed
-- last, are looked at from above down to `cursor`. `waits` has the numbers of open edges, and those vertices are ready that have none.
pub record IsPlacing (m : ℕ) (sources targets leader order placed waits : List ℕ) (count : ℕ) (Ready : ℕ → Type 0) (awake cursor : ℕ) (open_at : ℕ → ℕ) : Type 0 where
  pub order_all : length order ≡ m
  pub placed_all : length placed ≡ m
  pub waits_all : length waits ≡ m
  pub ordered : IsOrdered m sources targets leader order placed count
  pub waits_are : (b : ℕ) → b < m → get_or waits b 0 ≡ waiting sources open_at (length sources) b
  pub open_one : (x : ℕ) → x < length sources → open_at x ≢ 0 → (open_at x ≡ 1) × (get_or sources x 0 ≢ get_or targets x 0)
      × ((get_or placed (get_or targets x 0) 0 ≡ 0) ⊎ ((get_or targets x 0 ≡ awake) × (x < cursor)))
  pub open_none : (x : ℕ) → x < length sources → open_at x ≡ 0 → get_or sources x 0 ≢ get_or targets x 0
      → (get_or placed (get_or targets x 0) 0 ≢ 0) × (get_or targets x 0 ≡ awake → cursor ≤ x)
  pub ready_in : (v : ℕ) → Ready v → (v < m) × (get_or leader v 0 ≡ v) × (get_or placed v 0 ≡ 0) × (get_or waits v 0 ≡ 0)
  pub ready_all : (v : ℕ) → v < m → get_or leader v 0 ≡ v → get_or placed v 0 ≡ 0 → get_or waits v 0 ≡ 0 → Ready v

abbrev pub Places : ℕ → List ℕ → List ℕ → List ℕ → List ℕ → List ℕ → List ℕ → ℕ → (ℕ → Type 0) → ℕ → ℕ → Type 0
Places m sources targets leader order placed waits count Ready awake cursor = (open_at : ℕ → ℕ) × IsPlacing m sources targets leader order placed waits count Ready awake cursor open_at

-- the ends of the edges are their own leaders
pub record IsLed (sources targets leader : List ℕ) : Type 0 where
  pub source : (x : ℕ) → x < length sources → get_or leader (get_or sources x 0) 0 ≡ get_or sources x 0
  pub target : (x : ℕ) → x < length sources → get_or leader (get_or targets x 0) 0 ≡ get_or targets x 0

-- some numbers of vertices rise along the edges to other vertices
pub record HasRanks (m : ℕ) (sources targets : List ℕ) : Type 0 where
  pub rank : ℕ → ℕ
  pub top : ℕ
  pub low : (v : ℕ) → v < m → rank v ≤ top
  pub rise : (x : ℕ) → x < length sources → get_or sources x 0 ≢ get_or targets x 0 → rank (get_or sources x 0) < rank (get_or targets x 0)
