-- Rows as they are given, before they make an incidence.
use Rattle.std.specs.Prelude.{ℕ, ◌+◌, ◌<◌, ◌≤◌, List, length, map, Vec}
use Rattle.std.specs.Global.{Global}
use Rattle.std.proofs.Common.{get_or}
use Rattle.mo_incidence.specs.Signature.{Signature}

-- the signature matrix of these rows
unfoldable pub given : ℕ → List (Vec (ℕ × ℕ) Global) → Signature
given unknowns rows = record { unknowns = unknowns; rows = map (λ row. row.items) rows }

-- the unknowns of the row are known and ascend, and no order passes its limit
pub record IsRow (unknowns : ℕ) (row : List (ℕ × ℕ)) : Type 0 where
  pub known : (k : ℕ) → k < length row → (0 < (get_or row k (0, 0)).0) × ((get_or row k (0, 0)).0 ≤ unknowns)
  pub ascending : (k : ℕ) → k + 1 < length row → (get_or row k (0, 0)).0 < (get_or row (k + 1) (0, 0)).0
  pub low : (k : ℕ) → k < length row → (get_or row k (0, 0)).1 < 65536
