-- Words on the search for ranks.
use Rattle.std.specs.Prelude.{◌≡◌, ◌≢◌, ℕ, ◌+◌, ◌-◌, ◌<◌, ◌≤◌, ◌⊎◌, List, length}
use Rattle.std.proofs.Common.{get_or, set}
use Rattle.mo_incidence.specs.Signature.{Signature, equations}
use Rattle.mo_incidence.specs.Reasons.{IsCandidate, IsWithin, LeadsTo}

-- the equations in the queue have marks, one more than a number of steps that is enough, and these ascend
pub record IsRanking (g : Signature) (c d t : ℕ → ℕ) (q mk : List ℕ) (tail : ℕ) : Type 0 where
  pub queue_all : length q ≡ equations g
  pub mark_all : length mk ≡ equations g
  pub room : tail ≤ equations g
  pub in_range : (s : ℕ) → s < tail → get_or q s 0 < equations g
  pub apart : (s u : ℕ) → s < tail → u < tail → get_or q s 0 ≡ get_or q u 0 → s ≡ u
  pub marked : (s : ℕ) → s < tail → get_or mk (get_or q s 0) 0 ≢ 0
  pub listed : (i : ℕ) → get_or mk i 0 ≢ 0 → (s : ℕ) × (s < tail) × (get_or q s 0 ≡ i)
  pub within : (s : ℕ) → s < tail → IsWithin g c d t (get_or mk (get_or q s 0) 0 - 1) (get_or q s 0)
  pub low : (s : ℕ) → s < tail → get_or mk (get_or q s 0) 0 ≤ s + 1
  pub ascending : (s u : ℕ) → s ≤ u → u < tail → get_or mk (get_or q s 0) 0 ≤ get_or mk (get_or q u 0) 0

-- what a step of the search leaves
pub record RanksOn (q mk q' mk' : List ℕ) (tail tail' : ℕ) : Type 0 where
  pub more : tail ≤ tail'
  pub before : (s : ℕ) → s < tail → get_or q' s 0 ≡ get_or q s 0
  pub kept : (i : ℕ) → get_or mk i 0 ≢ 0 → get_or mk' i 0 ≡ get_or mk i 0

-- no equation in the queue has more than one step more than the one at the head
pub record IsNear (q mk : List ℕ) (head tail : ℕ) : Type 0 where
  pub near : (s : ℕ) → s < tail → get_or mk (get_or q s 0) 0 ≤ get_or mk (get_or q head 0) 0 + 1

-- the candidates of which the equations before `head` are one have marks
pub record IsClosedTo (g : Signature) (c d t : ℕ → ℕ) (q mk : List ℕ) (head : ℕ) : Type 0 where
  pub closed : (s i : ℕ) → s < head → i < equations g → IsCandidate g c d t i (get_or q s 0) → (get_or mk i 0 ≢ 0) × (get_or mk i 0 ≤ get_or mk (get_or q s 0) 0 + 1)

-- each equation with an offset of 0 has the mark 1
pub record AreZerosMarked (g : Signature) (c : ℕ → ℕ) (mk : List ℕ) (upto : ℕ) : Type 0 where
  pub one : (i : ℕ) → i < upto → c i ≡ 0 → get_or mk i 0 ≡ 1

-- at the start all marks are 1, and only equations before n have marks
pub record IsStarting (g : Signature) (c d t : ℕ → ℕ) (q mk : List ℕ) (tail n : ℕ) : Type 0 where
  pub ranking : IsRanking g c d t q mk tail
  pub ones : (s : ℕ) → s < tail → get_or mk (get_or q s 0) 0 ≡ 1
  pub low : (s : ℕ) → s < tail → get_or q s 0 < n
  pub zeros : AreZerosMarked g c mk n

-- where the search stands
pub record IsRankingTo (g : Signature) (c d t : ℕ → ℕ) (q mk : List ℕ) (head tail : ℕ) : Type 0 where
  pub ranking : IsRanking g c d t q mk tail
  pub closed : IsClosedTo g c d t q mk head
  pub near : head < tail → IsNear q mk head tail
  pub zeros : AreZerosMarked g c mk (equations g)
  pub within : head ≤ tail

-- by the marks, the equation at place a has a lower rank than that at place b, or the same and no greater number
abbrev pub IsBetter : List ℕ → ℕ → ℕ → Type 0
IsBetter mk a b = (get_or mk a 0 < get_or mk b 0) ⊎ ((get_or mk a 0 ≡ get_or mk b 0) × (a ≤ b))

-- `best` is one more than the place of the best candidate among the rows before k and the first entries of row k, or 0
pub record IsChosenTo (g : Signature) (c d t : ℕ → ℕ) (mk best : List ℕ) (k upto : ℕ) : Type 0 where
  pub best_all : length best ≡ equations g
  pub sound : (i : ℕ) → i < equations g → get_or best i 0 ≢ 0 → IsCandidate g c d t i (get_or best i 0 - 1) × (get_or best i 0 - 1 ≤ k)
  pub rows : (i k' : ℕ) → i < equations g → k' < k → IsCandidate g c d t i k' → (get_or best i 0 ≢ 0) × IsBetter mk (get_or best i 0 - 1) k'
  pub here : (i n : ℕ) → i < equations g → n < upto → LeadsTo g c d t k n i → (get_or best i 0 ≢ 0) × IsBetter mk (get_or best i 0 - 1) k

-- the equation at place k is taken for x, if it is better
pub record Considers (mk best : List ℕ) (k x : ℕ) (best' : List ℕ) : Type 0 where
  pub free : get_or best x 0 ≡ 0 → best' ≡ set best x (k + 1)
  pub less : get_or best x 0 ≢ 0 → get_or mk k 0 < get_or mk (get_or best x 0 - 1) 0 → best' ≡ set best x (k + 1)
  pub left : get_or best x 0 ≢ 0 → get_or mk (get_or best x 0 - 1) 0 ≤ get_or mk k 0 → best' ≡ best
