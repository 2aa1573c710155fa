-- Tables of words, sorted by name.
use Rattle.std.specs.Prelude.{ℕ, Bool, true, ◌&&◌, List, [], ◌∷◌, Option, Some, None, if◌then◌else◌}
use Rattle.std.specs.Cmp.Lexicographic.{slice_cmp}
use Rattle.std.specs.Ordering.{is_lt, nat_cmp}
use Rattle.std.specs.Str.{bytes_eq}
use Rattle.mo_tables.specs.declared.table.Row.{Row}

-- the code of the first row with that name
abbrev pub code_of : List Row → List ℕ → Option ℕ
code_of [] text = None
code_of (row ∷ rows) text = if bytes_eq row.name.now text then Some row.code else code_of rows text

-- the names rise by their bytes, so no name comes twice
abbrev pub ascends : List Row → Bool
ascends [] = true
ascends (row ∷ []) = true
ascends (row ∷ next ∷ rows) = is_lt (slice_cmp nat_cmp row.name.now next.name.now) && ascends (next ∷ rows)
