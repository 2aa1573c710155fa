-- Which classes have extends clauses.
use Rattle.std.specs.Prelude.{Bool, true, false, Option, Some, None}
use Rattle.std.specs.List.{list_any}
use Rattle.mo_scope.specs.Rows.{Row, Part, Element_of, Base_of}

abbrev pub is_clause : Part → Bool
is_clause (Element_of declares) = false
is_clause (Base_of clause) = true

abbrev pub is_extending_row : Row → Bool
is_extending_row row = list_any is_clause row.parts

-- a predefined type has none
abbrev pub is_extending : Option Row → Bool
is_extending None = false
is_extending (Some row) = is_extending_row row
