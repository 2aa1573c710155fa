-- What the subscripts of a reference select (Modelica Language Specification 3.5, section 10.5).
use Rattle.std.specs.Prelude.{ℕ, List, [], ◌∷◌, map, flat_map, is_ok, if◌then◌else◌}
use Rattle.mo_flat.specs.declared.array.Subscript.{Subscript}
use Rattle.mo_flat.specs.declared.array.Subscript.TheVariants.{All, One, Many}
use Rattle.mo_typing.specs.Dims.{Dims}
use Rattle.mo_typing.specs.Shape.{size_of}
use Rattle.mo_typing.specs.Indices.{Index, numbers_to}
use Rattle.mo_typing.specs.Subscripts.{subscripts}

abbrev pub selected_numbers : ℕ → Subscript → List ℕ
selected_numbers size All = numbers_to size
selected_numbers size (One place n) = size_of n ∷ []
selected_numbers size (Many place ns) = map size_of ns

-- the indices that subscripts select, the last one fastest
abbrev pub selected : Dims → List Subscript → List Index
selected [] subs = [] ∷ []
selected (n ∷ dims) [] = []
selected (n ∷ dims) (sub ∷ subs) = flat_map (λ k. map (λ index. k ∷ index) (selected dims subs)) (selected_numbers n sub)

-- a dimension whose subscript lies outside has no elements
abbrev pub emptied : Dims → List Subscript → Dims
emptied [] subs = []
emptied (n ∷ dims) [] = n ∷ emptied dims []
emptied (n ∷ dims) (sub ∷ subs) = (if is_ok (subscripts (n ∷ []) (sub ∷ [])) then n else 0) ∷ emptied dims subs
