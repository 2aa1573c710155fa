-- The rows of an incidence out of one flat list of entries, with the places where the rows start and the last one ends.
use Rattle.std.specs.Prelude.{◌≡◌, ℕ, ◌+◌, ◌-◌, ◌<◌, ◌≤◌, List, length, map}
use Rattle.std.proofs.Common.{get_or}
use Rattle.std.specs.List.{range_with_len, slice_range}
use Rattle.mo_incidence.specs.Signature.{Signature, IsSound}

-- the entries between two neighbouring starts
abbrev pub row_at : List ℕ → List (ℕ × ℕ) → ℕ → List (ℕ × ℕ)
row_at starts flat i = slice_range flat (get_or starts i 0) (get_or starts (i + 1) 0)

unfoldable pub signature : ℕ → List ℕ → List (ℕ × ℕ) → Signature
signature unknowns starts flat =
    record { unknowns = unknowns; rows = map (row_at starts flat) (range_with_len 0 (length starts - 1)) }

-- the starts ascend from 0 to the length of the list
pub record IsCut (starts : List ℕ) (flat : List (ℕ × ℕ)) : Type 0 where
  pub some : 0 < length starts
  pub first : get_or starts 0 0 ≡ 0
  pub last : get_or starts (length starts - 1) 0 ≡ length flat
  pub ordered : (i : ℕ) → i + 1 < length starts → get_or starts i 0 ≤ get_or starts (i + 1) 0
  pub within : (i : ℕ) → i < length starts → get_or starts i 0 ≤ length flat

pub record IsFlat (unknowns : ℕ) (starts : List ℕ) (flat : List (ℕ × ℕ)) : Type 0 where
  pub cut : IsCut starts flat
  pub sound : IsSound (signature unknowns starts flat)
