-- Reading a table of words.
use Rattle.std.proofs.Common.{ℕ, zero, suc, ◌≡◌, ◌≤◌, ◌<◌, List, [], ◌∷◌, map, length, get_or, refl, arith}
use Rattle.std.specs.Prelude.{slice_get, unwrap_or}

pub read : {A : Type 0} (f : A → List ℕ) (rows : List A) (n : ℕ) (d : A) → n < length rows → f (get_or rows n d) ≡ unwrap_or (slice_get (map f rows) n) []
read f [] n d h = absurd (omega arith)
read f (row ∷ rows) zero d h = refl
read f (row ∷ rows) (suc n) d h = read f rows n d (omega arith)

pub past : {A : Type 0} (f : A → List ℕ) (rows : List A) (n : ℕ) → length rows ≤ n → [] ≡ unwrap_or (slice_get (map f rows) n) []
past f [] n h = refl
past f (row ∷ rows) zero h = absurd (omega arith)
past f (row ∷ rows) (suc n) h = past f rows n (omega arith)
