-- Classes of vertices that chains lead to from each other, gathered backwards from the vertex that finished last.
use Rattle.std.specs.Prelude.{◌≡◌, ◌≢◌, ℕ, ◌+◌, ◌<◌, ◌≤◌, List, length}
use Rattle.std.proofs.Common.{get_or}
use Rattle.mo_graph.specs.Order.{Leads}
use Rattle.mo_graph.specs.Edges.{Edge}
use Rattle.mo_graph.specs.steps.Finishing.{unmarked}

-- `class` is a vertex's number, or 0. Those with numbers stand in the queue; those of the last number stand there from `base` on, and
-- come from the vertex at place t of the order. What leads to those before `head` has a number.
pub record IsGathered (m : ℕ) (sources targets order : List ℕ) (count : ℕ) (class queue : List ℕ) (base head tail number t : ℕ) : Type 0 where
  pub class_all : length class ≡ m
  pub queue_all : length queue ≡ m
  pub room : tail + unmarked m class ≡ m
  pub queue_in : (s : ℕ) → s < tail → (get_or queue s 0 < m) × (get_or class (get_or queue s 0) 0 ≢ 0)
  pub listed : (v : ℕ) → get_or class v 0 ≢ 0 → (s : ℕ) × (s < tail) × (get_or queue s 0 ≡ v)
  pub bounds : (base ≤ head) × (head ≤ tail)
  pub few : (0 < number) × (number ≤ base + 1)
  pub early : (s : ℕ) → s < base → get_or class (get_or queue s 0) 0 < number
  pub late : (s : ℕ) → base ≤ s → s < tail → get_or class (get_or queue s 0) 0 ≡ number
  pub shut : (s u : ℕ) → s < head → Edge sources targets u (get_or queue s 0) → get_or class u 0 ≢ 0
  pub falls : (u v : ℕ) → Edge sources targets u v → get_or class u 0 ≢ 0 → get_or class v 0 ≢ 0 → get_or class u 0 ≤ get_or class v 0
  pub together : (u v : ℕ) → get_or class u 0 ≢ 0 → get_or class u 0 ≡ get_or class v 0 → Leads (Edge sources targets) u v
  pub home : (s : ℕ) → base ≤ s → s < tail → Leads (Edge sources targets) (get_or queue s 0) (get_or order t 0)
  pub near : (s : ℕ) → base ≤ s → s < tail → (b : ℕ) × (b ≤ t) × (b < count) × (get_or order b 0 ≡ get_or queue s 0)
      × ((c : ℕ) → b ≤ c → c ≤ t → Leads (Edge sources targets) (get_or order t 0) (get_or order c 0))
  pub done : (a : ℕ) → t ≤ a → a < count → get_or class (get_or order a 0) 0 ≢ 0

-- the vertices of one number are those that chains lead to from each other, and numbers don't fall along edges
pub record AreClasses (m : ℕ) (sources targets class : List ℕ) : Type 0 where
  pub size : length class ≡ m
  pub some : (v : ℕ) → v < m → (0 < get_or class v 0) × (get_or class v 0 ≤ m)
  pub falls : (u v : ℕ) → Edge sources targets u v → get_or class u 0 ≤ get_or class v 0
  pub together : (u v : ℕ) → u < m → get_or class u 0 ≡ get_or class v 0 → Leads (Edge sources targets) u v
