-- The table for an element that is entered (Modelica Language Specification 3.5, sections 7.2.5 and 10.1): the index stands behind the
-- pending indices of each value, if none of the names that are left has `each`.
use Rattle.std.specs.Prelude.{ℕ, Bool, List, [], ◌∷◌, ◌++◌, None, option_map, if◌then◌else◌}
use Rattle.std.specs.List.{list_any}
use Rattle.mo_mods.specs.Merged.{Merged, Table_of, Below, Nothing_below, Below_then, Merged_value, value_here, tables_below, table_for}

-- what is left behind the first name
abbrev pub rest_of : List Bool → List Bool
rest_of [] = []
rest_of (mark ∷ marks) = marks

-- pending indices behind an index, if none of these names has `each`
abbrev pub with_index : List ℕ → List Bool → List ℕ → List ℕ
with_index index marks pending = if list_any (λ mark. mark) marks then pending else pending ++ index

abbrev pub entered_value : List ℕ → Merged_value → Merged_value
entered_value index value = record {
  picked = record {
    value = value.picked.value;
    scope = value.picked.scope;
    pending = with_index index (rest_of value.each) value.picked.pending;
  };
  each = rest_of value.each;
}

abbrev mutual
  pub entered_table : List ℕ → Merged → Merged
  entered_table index (Table_of value redeclared below) = Table_of (option_map (entered_value index) value) redeclared (entered_below index below)

  pub entered_below : List ℕ → Below → Below
  entered_below index Nothing_below = Nothing_below
  entered_below index (Below_then name table others) = Below_then name (entered_table index table) (entered_below index others)

-- The table of an element, whose own redeclaration is none of its parts.
abbrev pub stepped : List ℕ → Merged → Merged
stepped index merged = Table_of (option_map (entered_value index) (value_here merged)) None (entered_below index (tables_below merged))

-- the table for the element of that name
abbrev pub stepped_in : Merged → List ℕ → List ℕ → Merged
stepped_in from name index = stepped index (table_for name (tables_below from))
