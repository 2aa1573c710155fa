-- What a shelf holds, and what a read of it gives.
use Rattle.std.specs.Prelude.{◌≡◌, ℕ, ◌-◌, ◌<◌, ◌≤◌, List, [], ◌∷◌, ◌++◌, length, take, drop, IfSome, IsSomeAnd, Option, Some, None, unwrap_or, bytes_eq, if◌then◌else◌}

-- the bytes of each name; an absent name has none
abbrev pub Contents : Type 0
Contents = List ℕ → Option (List ℕ)

-- the bytes of the first file that has the name
abbrev pub bytes_of : List (List ℕ × List ℕ) → Contents
bytes_of [] name = None
bytes_of (file ∷ files) name = if bytes_eq file.0 name then Some file.1 else bytes_of files name

-- the same, where a name that no file has stands for no bytes
abbrev pub bytes_or_none : List (List ℕ × List ℕ) → List ℕ → List ℕ
bytes_or_none files name = unwrap_or (bytes_of files name) []

-- `count` bytes from byte `at` on stand at the front of the buffer, and none is given only at the end of the bytes or
-- to an empty buffer; nothing is read of an absent name
abbrev pub ReadsAt : Option (List ℕ) → ℕ → List ℕ → ℕ → Type 0
ReadsAt None at buf count = ⊥
ReadsAt (Some bytes) at buf count =
    (take count buf ≡ take count (drop at bytes))
    × (count ≤ length bytes - at)
    × (0 < length buf → count ≡ 0 → length bytes ≤ at)

-- the newest of the strings, if there is one
abbrev pub newest : List (List ℕ) → Option (List ℕ)
newest [] = None
newest (piece ∷ pieces) = Some piece

-- the strings one after another, where the list has the newest first
abbrev pub joined : List (List ℕ) → List ℕ
joined [] = []
joined (piece ∷ pieces) = joined pieces ++ piece

-- where the contents are told, the name has more than so many bytes
abbrev pub HoldsMoreThan : ℕ → List ℕ → Option Contents → Type 0
HoldsMoreThan limit name told = IfSome told (λ contents. IsSomeAnd (contents name) (λ bytes. limit < length bytes))
