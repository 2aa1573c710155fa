-- The order in which a search by depth finishes vertices.
use Rattle.std.specs.Prelude.{◌≡◌, ◌≢◌, ℕ, ◌+◌, ◌-◌, ◌<◌, ◌≤◌, ◌⊎◌, ◌==◌, if◌then◌else◌, List, length}
use Rattle.std.proofs.Common.{get_or}
use Rattle.mo_graph.specs.Counting.{sum_below}
use Rattle.mo_graph.specs.Order.{Leads}
use Rattle.mo_graph.specs.Edges.{Edge}

-- 1 where the number is 0
abbrev pub none : ℕ → ℕ
none x = if x == 0 then 1 else 0

-- how many of the first m vertices have no mark
unfoldable pub unmarked : ℕ → List ℕ → ℕ
unmarked m mark = sum_below (λ v. none (get_or mark v 0)) m

-- the sum of the first m numbers
unfoldable pub total : ℕ → List ℕ → ℕ
total m cursor = sum_below (λ v. get_or cursor v 0) m

-- where an edge leads from a finished vertex to a later one, this reaches all that finished in between
abbrev pub LeadsBack : List ℕ → List ℕ → List ℕ → ℕ → Type 0
LeadsBack sources targets order count = (a b c : ℕ) → a < b → b < count → Edge sources targets (get_or order a 0) (get_or order b 0)
    → a ≤ c → c ≤ b → Leads (Edge sources targets) (get_or order b 0) (get_or order c 0)

-- The search is at the end of `path`; the first `count` vertices of `order` are finished. Those on the path and the finished ones have
-- marks. `cursor` leads to the edge of a vertex that is looked at next, one more than its place, or 0. When place s of the path was
-- reached, `since s` vertices were finished.
pub record IsWalk (m : ℕ) (sources targets path mark cursor order : List ℕ) (top count : ℕ) (since : ℕ → ℕ) : Type 0 where
  pub path_all : length path ≡ m
  pub mark_all : length mark ≡ m
  pub cursor_all : length cursor ≡ m
  pub order_all : length order ≡ m
  pub room : top + count + unmarked m mark ≡ m
  pub path_in : (s : ℕ) → s < top → (get_or path s 0 < m) × (get_or mark (get_or path s 0) 0 ≢ 0)
  pub order_in : (a : ℕ) → a < count → (get_or order a 0 < m) × (get_or mark (get_or order a 0) 0 ≢ 0) × (get_or cursor (get_or order a 0) 0 ≡ 0)
  pub met : (v : ℕ) → get_or mark v 0 ≢ 0 → ((s : ℕ) × (s < top) × (get_or path s 0 ≡ v)) ⊎ ((a : ℕ) × (a < count) × (get_or order a 0 ≡ v))
  pub at_cursor : (v : ℕ) → 0 < get_or cursor v 0 → (get_or cursor v 0 ≤ length sources) × (get_or sources (get_or cursor v 0 - 1) 0 ≡ v)
  pub looked : (x : ℕ) → x < length sources → get_or cursor (get_or sources x 0) 0 ≤ x → get_or mark (get_or targets x 0) 0 ≢ 0
  pub since_in : (s : ℕ) → s < top → since s ≤ count
  pub reach : (s t : ℕ) → s ≤ t → t < top → Leads (Edge sources targets) (get_or path s 0) (get_or path t 0)
  pub below : (s a : ℕ) → s < top → since s ≤ a → a < count → Leads (Edge sources targets) (get_or path s 0) (get_or order a 0)
  pub still : (a s : ℕ) → a < count → s < top → Edge sources targets (get_or order a 0) (get_or path s 0) → since s ≤ a
  pub back : LeadsBack sources targets order count

abbrev pub Walks : ℕ → List ℕ → List ℕ → List ℕ → List ℕ → List ℕ → List ℕ → ℕ → ℕ → Type 0
Walks m sources targets path mark cursor order top count = (since : ℕ → ℕ) × IsWalk m sources targets path mark cursor order top count since

-- all vertices stand in the order
pub record IsFinished (m : ℕ) (sources targets order : List ℕ) (count : ℕ) : Type 0 where
  pub size : length order ≡ m
  pub room : count ≤ m
  pub in_range : (a : ℕ) → a < count → get_or order a 0 < m
  pub all : (v : ℕ) → v < m → (a : ℕ) × (a < count) × (get_or order a 0 ≡ v)
  pub back : LeadsBack sources targets order count
