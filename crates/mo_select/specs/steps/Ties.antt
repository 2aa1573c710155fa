-- Words on listing the ties of a stage: which of its equations are tight at which candidates.
use Rattle.std.specs.Prelude.{◌≡◌, ℕ, ◌+◌, ◌-◌, ◌<◌, ◌≤◌, List, [], length, map, Vec}
use Rattle.std.specs.Global.{Global}
use Rattle.std.proofs.Common.{get_or, suc}
use Rattle.mo_incidence.specs.Signature.{Signature, row_len, unknown_at, order_at}
use Rattle.mo_incidence.specs.Offsets.{by_place, IsTight}
use Rattle.mo_incidence.specs.steps.Needing.{IsNeed}

-- the entries of rows that are held in vectors
abbrev pub entries_in : List (Vec (ℕ × ℕ) Global) → List (List (ℕ × ℕ))
entries_in rows = map (λ row. row.items) rows

-- the row has an entry at x
abbrev pub HasEntry : List (ℕ × ℕ) → ℕ → Type 0
HasEntry row x = (n : ℕ) × (n < length row) × ((get_or row n (0, 0)).0 ≡ x)

-- Row t has an entry for each equation that is tight at the candidate at place t of the order, by its place in the list from 1: for those
-- before place i of the list all, for the one at place i those of its first `upto` entries.
pub record HasTies (g : Signature) (c d : ℕ → ℕ) (active order : List ℕ) (rows : List (List (ℕ × ℕ))) (i upto : ℕ) : Type 0 where
  pub size : length rows ≡ length order
  pub only : (t n : ℕ) → n < length (get_or rows t []) → (0 < (get_or (get_or rows t []) n (0, 0)).0) × ((get_or (get_or rows t []) n (0, 0)).0 ≤ length active)
      × IsTight g c d (get_or active ((get_or (get_or rows t []) n (0, 0)).0 - 1) 0) (get_or order t 0)
  pub before : (e k t : ℕ) → e < i → k < row_len g (get_or active e 0) → t < length order → IsNeed g c d (by_place order) (get_or active e 0) k t → HasEntry (get_or rows t []) (suc e)
  pub here : (k t : ℕ) → k < upto → t < length order → IsNeed g c d (by_place order) (get_or active i 0) k t → HasEntry (get_or rows t []) (suc i)

-- an entry is tight at one of the candidates with `end` of these before it in the order
abbrev pub IsOpen : Signature → (c d : ℕ → ℕ) → List ℕ → ℕ → ℕ → ℕ → Type 0
IsOpen g c d rank end i k = (0 < get_or rank (unknown_at g i k) 0) × (get_or rank (unknown_at g i k) 0 ≤ end) × (d (unknown_at g i k) ≡ c i + order_at g i k)

-- the row has the unknowns of the open ones among the first `upto` entries of the equation at place i
pub record IsOpenRow (g : Signature) (c d : ℕ → ℕ) (rank : List ℕ) (end i upto : ℕ) (row : List (ℕ × ℕ)) : Type 0 where
  pub only : (n : ℕ) → n < length row → (k : ℕ) × (k < upto) × IsOpen g c d rank end i k × ((get_or row n (0, 0)).0 ≡ unknown_at g i k)
  pub all : (k : ℕ) → k < upto → IsOpen g c d rank end i k → HasEntry row (unknown_at g i k)

-- the rows of the first equations of the list
pub record AreOpenRows (g : Signature) (c d : ℕ → ℕ) (active rank : List ℕ) (end : ℕ) (rows : List (List (ℕ × ℕ))) : Type 0 where
  pub row : (e : ℕ) → e < length rows → IsOpenRow g c d rank end (get_or active e 0) (row_len g (get_or active e 0)) (get_or rows e [])
