-- Indices of array expressions: they count from 1, the first dimension first (Modelica Language Specification 3.5, section 10.5).
use Rattle.std.specs.Prelude.{ℕ, zero, suc, ◌+◌, ◌-◌, ◌*◌, ℤ, pos, ◌+ℤ◌, ◌*ℤ◌, Bool, true, false, ◌&&◌, List, [], ◌∷◌, ◌++◌, map, flat_map, Option, Some, None, if◌then◌else◌, nat_eq, nat_le, slice_get}
use Rattle.mo_flat.specs.declared.array.Subscript.{Subscript}
use Rattle.mo_flat.specs.declared.array.Subscript.TheVariants.{All, One, Many}
use Rattle.mo_typing.specs.Dims.{Dims, is_scalar}
use Rattle.mo_typing.specs.Shape.{size_of}

abbrev pub Index : Type 0
Index = List ℕ

-- an index in dimensions: one number for each, from 1 to the size
abbrev pub is_index : Dims → Index → Bool
is_index [] [] = true
is_index (n ∷ dims) (k ∷ index) = nat_le 1 k && nat_le k n && is_index dims index
is_index _ _ = false

-- the numbers from 1 to n
abbrev pub numbers_to : ℕ → List ℕ
numbers_to zero = []
numbers_to (suc n) = numbers_to n ++ suc n ∷ []

-- all indices, the last one fastest
abbrev pub indices : Dims → List Index
indices [] = [] ∷ []
indices (n ∷ dims) = flat_map (λ k. map (λ index. k ∷ index) (indices dims)) (numbers_to n)

-- a scalar stands beside each element of an array
abbrev pub own : Dims → Index → Index
own dims index = if is_scalar dims then [] else index

abbrev pub or_else : {A : Type 0} → Option A → A → A
or_else None a = a
or_else (Some b) a = b

abbrev pub first_number : Index → ℕ
first_number [] = 0
first_number (k ∷ index) = k

-- the number at place k, from 1
abbrev pub number_at : List ℤ → ℕ → ℕ
number_at ns k = size_of (or_else (slice_get ns (k - 1)) (pos 0))

-- the index of the variable's element that an index of the subscripted array means
abbrev pub located : List Subscript → Index → Index
located [] index = index
located (One place n ∷ subs) index = size_of n ∷ located subs index
located (All ∷ subs) (k ∷ index) = k ∷ located subs index
located (Many place ns ∷ subs) (k ∷ index) = number_at ns k ∷ located subs index
located (s ∷ subs) [] = []

-- how many elements stand before that of an index, the last index fastest
abbrev pub offset : ℕ → Dims → Index → ℕ
offset before [] index = before
offset before (n ∷ dims) [] = before
offset before (n ∷ dims) (k ∷ index) = offset (before * n + (k - 1)) dims index

-- the number of the variable at an index, where the elements have these numbers
abbrev pub variable_at : List ℕ → Dims → Index → ℕ
variable_at vars dims index = or_else (slice_get vars (offset 0 dims index)) 0

-- a number of a range
abbrev pub range_element : ℤ → ℤ → Index → ℤ
range_element first step index = first +ℤ (pos (first_number index - 1) *ℤ step)

abbrev pub is_diagonal : Index → Bool
is_diagonal (i ∷ j ∷ []) = nat_eq i j
is_diagonal _ = false
