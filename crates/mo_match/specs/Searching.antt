-- Words on the search for an unknown that an equation can still have, breadth first. Equations are named by their places, from 0.
use Rattle.std.specs.Prelude.{◌≡◌, ◌≢◌, ℕ, ◌+◌, ◌-◌, ◌<◌, ◌≤◌, ◌⊎◌, Bool, true, List, length}
use Rattle.std.proofs.Common.{get_or, set, suc}
use Rattle.mo_incidence.specs.Signature.{Signature, equations, row_len, unknown_at, order_at}

-- which equation may have which unknown: by each entry, or with `tight` only where c and d have equality
pub record Bipartite : Type 0 where
  pub signature : Signature
  pub tight : Bool
  pub c : List ℕ
  pub d : List ℕ

-- c and d have a number for each equation and each unknown
pub record IsSized (b : Bipartite) : Type 0 where
  pub equations : b.tight ≡ true → length b.c ≡ equations b.signature
  pub unknowns : b.tight ≡ true → length b.d ≡ b.signature.unknowns

-- the graph of the tight entries
abbrev pub tight_of : Signature → List ℕ → List ℕ → Bipartite
tight_of g c d = record { signature = g; tight = true; c = c; d = d }

-- the entry may be used
unfoldable pub UsesEntry : Bipartite → ℕ → ℕ → Type 0
UsesEntry b i k = b.tight ≡ true → get_or b.d (unknown_at b.signature i k - 1) 0 ≡ get_or b.c i 0 + order_at b.signature i k

-- the equation at place i may have unknown j
unfoldable pub Uses : Bipartite → ℕ → ℕ → Type 0
Uses b i j = (k : ℕ) × (k < row_len b.signature i) × (unknown_at b.signature i k ≡ j) × UsesEntry b i k

-- j is the unknown of the entry, which may be used
abbrev pub IsUsable : Bipartite → ℕ → ℕ → ℕ → Type 0
IsUsable b i k j = (j ≡ unknown_at b.signature i k) × UsesEntry b i k

-- `pairs` gives the equations' unknowns, or 0, and `owner` for each unknown one more than the place of its equation, or 0
pub record IsMatching (E : ℕ → ℕ → Type 0) (m n : ℕ) (pairs owner : List ℕ) : Type 0 where
  pub equations_all : length pairs ≡ m
  pub unknowns_all : length owner ≡ suc n
  pub edge : (i : ℕ) → i < m → get_or pairs i 0 ≢ 0 → E i (get_or pairs i 0)
  pub owned : (i : ℕ) → i < m → get_or pairs i 0 ≢ 0 → (get_or pairs i 0 ≤ n) × (get_or owner (get_or pairs i 0) 0 ≡ suc i)
  pub owns : (i j : ℕ) → 0 < j → j ≤ n → get_or owner j 0 ≡ suc i → (i < m) × (get_or pairs i 0 ≡ j)

-- the equations in the queue, each with the place in the queue of the one from which it was reached
pub record IsTree (E : ℕ → ℕ → Type 0) (m : ℕ) (pairs queue parent mark : List ℕ) (base tail : ℕ) : Type 0 where
  pub queue_all : length queue ≡ m
  pub parent_all : length parent ≡ m
  pub mark_all : length mark ≡ m
  pub room : tail ≤ m
  pub in_range : (t : ℕ) → t < tail → get_or queue t 0 < m
  pub apart : (s t : ℕ) → s < tail → t < tail → get_or queue s 0 ≡ get_or queue t 0 → s ≡ t
  pub marked : (t : ℕ) → t < tail → get_or mark (get_or queue t 0) 0 ≢ 0
  pub listed : (x : ℕ) → x < m → get_or mark x 0 ≢ 0 → (t : ℕ) × (t < tail) × (get_or queue t 0 ≡ x)
  pub linked : (t : ℕ) → t < tail → get_or pairs (get_or queue t 0) 0 ≢ 0
      → (get_or parent t 0 < t) × E (get_or queue (get_or parent t 0) 0) (get_or pairs (get_or queue t 0) 0)
  -- past place `base`, where the last search begins, all have unknowns, and were reached from there
  pub rooted : (t : ℕ) → base < t → t < tail → (get_or pairs (get_or queue t 0) 0 ≢ 0) × (base ≤ get_or parent t 0)

-- the unknown of the entry, if the entry may be used, belongs to a marked equation
pub record IsPassed (b : Bipartite) (owner mark : List ℕ) (i k : ℕ) : Type 0 where
  pub inner : UsesEntry b i k
      → (get_or owner (unknown_at b.signature i k) 0 ≢ 0) × (get_or mark (get_or owner (unknown_at b.signature i k) 0 - 1) 0 ≢ 0)

-- the equation at place i has been searched up to its entry `upto`
pub record IsSearched (b : Bipartite) (owner mark : List ℕ) (i upto : ℕ) : Type 0 where
  pub passed : (k : ℕ) → k < upto → IsPassed b owner mark i k

-- the equations before place `upto` of the queue have been searched
pub record ClosedTo (b : Bipartite) (owner mark queue : List ℕ) (upto : ℕ) : Type 0 where
  pub searched : (t : ℕ) → t < upto → IsSearched b owner mark (get_or queue t 0) (row_len b.signature (get_or queue t 0))

-- the queue and the marks only gain
pub record Grows (queue mark queue' mark' : List ℕ) (tail tail' : ℕ) : Type 0 where
  pub more : tail ≤ tail'
  pub before : (t : ℕ) → t < tail → get_or queue' t 0 ≡ get_or queue t 0
  pub kept : (x : ℕ) → get_or mark x 0 ≢ 0 → get_or mark' x 0 ≢ 0

-- the equation at place i may have unknown j, which no equation has
pub record IsFree (b : Bipartite) (owner : List ℕ) (i j : ℕ) : Type 0 where
  pub positive : 0 < j
  pub known : j ≤ b.signature.unknowns
  pub unowned : get_or owner j 0 ≡ 0
  pub used : Uses b i j

-- equation x was put at the end of the queue, if it had no mark
pub record Reaches (queue parent mark : List ℕ) (tail x head : ℕ) (queue' parent' mark' : List ℕ) (tail' : ℕ) : Type 0 where
  pub old : get_or mark x 0 ≢ 0 → (queue' ≡ queue) × (parent' ≡ parent) × (mark' ≡ mark) × (tail' ≡ tail)
  pub new : get_or mark x 0 ≡ 0 → (queue' ≡ set queue tail x) × (parent' ≡ set parent tail head) × (mark' ≡ set mark x 1) × (tail' ≡ tail + 1)

abbrev pub Matches : Bipartite → List ℕ → List ℕ → Type 0
Matches b pairs owner = IsMatching (Uses b) (equations b.signature) b.signature.unknowns pairs owner

abbrev pub HoldsTree : Bipartite → List ℕ → List ℕ → List ℕ → List ℕ → ℕ → ℕ → Type 0
HoldsTree b pairs queue parent mark base tail = IsTree (Uses b) (equations b.signature) pairs queue parent mark base tail

-- a search can begin from the equation at place i, which has no unknown and no mark
abbrev pub CanBegin : Bipartite → List ℕ → List ℕ → ℕ → Type 0
CanBegin b pairs mark i = (i < equations b.signature) × (get_or pairs i 0 ≡ 0) × (get_or mark i 0 ≡ 0)

-- no equation loses its mark
abbrev pub KeepMarks : Bipartite → List ℕ → List ℕ → Type 0
KeepMarks b mark mark' = (x : ℕ) → x < equations b.signature → get_or mark x 0 ≢ 0 → get_or mark' x 0 ≢ 0

-- the equations before place r have an unknown, or are in the closed front of the queue, which ends at base
pub record IsAssignedTo (b : Bipartite) (pairs owner queue parent mark : List ℕ) (base r : ℕ) : Type 0 where
  pub matching : Matches b pairs owner
  pub tree : HoldsTree b pairs queue parent mark base base
  pub closed : ClosedTo b owner mark queue base
  pub settled : (i : ℕ) → i < r → get_or pairs i 0 ≡ 0 → get_or mark i 0 ≢ 0

-- the equations behind the first in the queue, before place `upto`, have been searched
pub record IsClosedBehind (b : Bipartite) (owner mark queue : List ℕ) (upto : ℕ) : Type 0 where
  pub searched : (t : ℕ) → 0 < t → t < upto → IsSearched b owner mark (get_or queue t 0) (row_len b.signature (get_or queue t 0))

-- the equation at place `base` of the queue gets unknown j: the free one itself, or that of an equation that was reached from it
abbrev pub IsHandedTo : (pairs queue parent : List ℕ) → (base tail place free j : ℕ) → Type 0
IsHandedTo pairs queue parent base tail place free j = ((place ≡ base) × (j ≡ free))
    ⊎ ((t : ℕ) × (base < t) × (t < tail) × (get_or parent t 0 ≡ base) × (j ≡ get_or pairs (get_or queue t 0) 0))
