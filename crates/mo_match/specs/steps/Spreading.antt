-- Words on the search for unknowns that some assignment of all equations leaves out.
use Rattle.std.specs.Prelude.{◌≡◌, ◌≢◌, ℕ, ◌+◌, ◌-◌, ◌<◌, ◌≤◌, List, length}
use Rattle.std.proofs.Common.{get_or, set, suc}
use Rattle.mo_incidence.specs.Signature.{Signature, equations}
use Rattle.mo_incidence.specs.Assignment.{Mentions}

-- The unknowns in `order` have marks in `reached`. One that an equation has was reached from an earlier one that this equation mentions.
pub record IsSpread (g : Signature) (owner reached order : List ℕ) (tail : ℕ) : Type 0 where
  pub reached_all : length reached ≡ suc g.unknowns
  pub order_all : length order ≡ g.unknowns
  pub room : tail ≤ g.unknowns
  pub in_range : (s : ℕ) → s < tail → (0 < get_or order s 0) × (get_or order s 0 ≤ g.unknowns)
  pub apart : (s t : ℕ) → s < tail → t < tail → get_or order s 0 ≡ get_or order t 0 → s ≡ t
  pub marked : (s : ℕ) → s < tail → get_or reached (get_or order s 0) 0 ≢ 0
  pub listed : (j : ℕ) → get_or reached j 0 ≢ 0 → (s : ℕ) × (s < tail) × (get_or order s 0 ≡ j)
  pub linked : (s : ℕ) → s < tail → get_or owner (get_or order s 0) 0 ≢ 0
      → (t : ℕ) × (t < s) × Mentions g (get_or owner (get_or order s 0) 0 - 1) (get_or order t 0)

-- the marks and the order only gain
pub record Spreads (reached order reached' order' : List ℕ) (tail tail' : ℕ) : Type 0 where
  pub more : tail ≤ tail'
  pub before : (s : ℕ) → s < tail → get_or order' s 0 ≡ get_or order s 0
  pub kept : (j : ℕ) → get_or reached j 0 ≢ 0 → get_or reached' j 0 ≢ 0

-- each unknown up to `upto` that no equation has is marked
pub record AreFreeMarked (g : Signature) (owner reached : List ℕ) (upto : ℕ) : Type 0 where
  pub free : (j : ℕ) → 0 < j → j < upto → get_or owner j 0 ≡ 0 → get_or reached j 0 ≢ 0

-- the unknown of each equation that mentions unknown j is marked
pub record IsSpreadFrom (g : Signature) (pairs reached : List ℕ) (j : ℕ) : Type 0 where
  pub inner : (i : ℕ) → i < equations g → Mentions g i j → get_or reached (get_or pairs i 0) 0 ≢ 0

-- for the unknowns before `head` in the order
pub record IsSpreadTo (g : Signature) (pairs reached order : List ℕ) (head : ℕ) : Type 0 where
  pub inner : (s : ℕ) → s < head → IsSpreadFrom g pairs reached (get_or order s 0)

-- unknown j was put at the end of the order, if it had no mark
pub record Marks (reached order : List ℕ) (tail j : ℕ) (reached' order' : List ℕ) (tail' : ℕ) : Type 0 where
  pub old : get_or reached j 0 ≢ 0 → (reached' ≡ reached) × (order' ≡ order) × (tail' ≡ tail)
  pub new : get_or reached j 0 ≡ 0 → (reached' ≡ set reached j 1) × (order' ≡ set order tail j) × (tail' ≡ tail + 1)
