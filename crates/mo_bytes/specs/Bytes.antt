-- Bytes of texts.
use Rattle.std.specs.Prelude.{◌≡◌, ◌⊎◌, ℕ, ◌+◌, ◌≤◌, List, [], ◌∷◌, length}
use Rattle.mo_syntax.specs.declared.place.Place.{Place}

-- a byte of the text of the file with that number, or its end
pub record IsByteOf (number : ℕ) (text : List ℕ) (place : Place) : Type 0 where
  pub file : place.file ≡ number
  pub byte : place.byte ≤ length text

-- a byte of one of the texts, the first of which is that of the file with the number k
abbrev pub IsByteOfSome : ℕ → List (List ℕ) → Place → Type 0
IsByteOfSome k [] place = ⊥
IsByteOfSome k (text ∷ texts) place = IsByteOf k text place ⊎ IsByteOfSome (k + 1) texts place
