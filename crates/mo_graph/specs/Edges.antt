-- Directed graphs as lists of edges, and their edges threaded by an end.
use Rattle.std.specs.Prelude.{◌≡◌, ◌≢◌, ℕ, ◌-◌, ◌<◌, ◌≤◌, List, length}
use Rattle.std.proofs.Common.{get_or, suc}
use Rattle.mo_graph.specs.declared.edges.Edges.{Edges}

-- some edge leads from u to v
unfoldable pub Edge : List ℕ → List ℕ → ℕ → ℕ → Type 0
Edge sources targets u v = (x : ℕ) × (x < length sources) × (get_or sources x 0 ≡ u) × (get_or targets x 0 ≡ v)

-- some edge of the graph leads from u to v
abbrev pub HasEdge : Edges → ℕ → ℕ → Type 0
HasEdge edges = Edge edges.sources.items edges.targets.items

-- the ends of the edges are below m, and nothing passes its limit
pub record IsGraph (m : ℕ) (sources targets : List ℕ) : Type 0 where
  pub same : length targets ≡ length sources
  pub source : (x : ℕ) → x < length sources → get_or sources x 0 < m
  pub target : (x : ℕ) → x < length sources → get_or targets x 0 < m
  pub few : length sources ≤ 1000000
  pub small : m ≤ 50000

-- For the first `filled` edges, which have these keys: `last` leads to a key's last edge and `before` from each to the one before it
-- with the same key, both one more than its place, or 0.
pub record IsThreadedTo (keys last before : List ℕ) (filled : ℕ) : Type 0 where
  pub before_all : length before ≡ length keys
  pub last_in : (v : ℕ) → get_or last v 0 ≤ filled
  pub at_last : (v : ℕ) → 0 < get_or last v 0 → get_or keys (get_or last v 0 - 1) 0 ≡ v
  pub past_last : (x : ℕ) → x < filled → x < get_or last (get_or keys x 0) 0
  pub falls : (x : ℕ) → x < filled → get_or before x 0 ≤ x
  pub at_before : (x : ℕ) → x < filled → 0 < get_or before x 0 → get_or keys (get_or before x 0 - 1) 0 ≡ get_or keys x 0
  pub none_between : (x y : ℕ) → x < filled → y < x → get_or keys y 0 ≡ get_or keys x 0 → y < get_or before x 0

abbrev pub AreThreaded : List ℕ → List ℕ → List ℕ → Type 0
AreThreaded keys last before = IsThreadedTo keys last before (length keys)

-- the edges are threaded, whichever their last ones are
abbrev pub HasThreads : List ℕ → List ℕ → Type 0
HasThreads keys before = (last : List ℕ) × AreThreaded keys last before

-- each vertex has the least vertex of its class as its leader
pub record AreLeaders (class leader : List ℕ) : Type 0 where
  pub size : length leader ≡ length class
  pub low : (i : ℕ) → i < length class → get_or leader i 0 ≤ i
  pub same : (i : ℕ) → i < length class → get_or class (get_or leader i 0) 0 ≡ get_or class i 0
  pub one : (i k : ℕ) → i < length class → k < length class → get_or class i 0 ≡ get_or class k 0 → get_or leader i 0 ≡ get_or leader k 0

-- for the first n vertices; `first` is one more than the least vertex of a class, or 0
pub record IsLeadingTo (class first leader : List ℕ) (n : ℕ) : Type 0 where
  pub size : length leader ≡ length class
  pub least : (q : ℕ) → get_or first q 0 ≢ 0 → (get_or first q 0 ≤ n) × (get_or class (get_or first q 0 - 1) 0 ≡ q)
  pub led : (i : ℕ) → i < n → (get_or first (get_or class i 0) 0 ≡ suc (get_or leader i 0)) × (get_or leader i 0 ≤ i)

-- the numbers of a list are replaced by what `leader` has at their places
pub record AreReplaced (leader old new : List ℕ) : Type 0 where
  pub size : length new ≡ length old
  pub at : (x : ℕ) → x < length old → get_or new x 0 ≡ get_or leader (get_or old x 0) 0
