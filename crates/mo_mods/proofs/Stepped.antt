-- The table for an element stands for the sources of the element.
use Rattle.std.proofs.Common.{◌≡◌, ℕ, Bool, true, false, cond, List, [], ◌∷◌, Option, Some, None, refl, ap, sym, ◌∙◌}
use Rattle.std.specs.Prelude.{option_map}
use Rattle.std.specs.Str.{bytes_eq}
use Rattle.mo_scope.specs.Rows.{Table}
use Rattle.mo_scope.specs.Parts.{parts, redeclared_path}
use Rattle.mo_mods.specs.Marks.{marks_of}
use Rattle.mo_mods.specs.Merged.{Merged, Table_of, Below, Nothing_below, Below_then, Merged_value, value_here, redeclared_here, tables_below, table_for, at_path, binding, redeclared_as, StepsIn}
use Rattle.mo_mods.specs.Steps.{rest_of, entered_value, entered_table, entered_below, stepped, stepped_in}
use Rattle.mo_mods.proofs.Entering.{entered_pick, picked_entered, marks_entered, redeclared_entered}

-- ---- tables below

table_entered : (index name : List ℕ) (below : Below) → table_for name (entered_below index below) ≡ entered_table index (table_for name below)
table_entered index name Nothing_below = refl
table_entered index name (Below_then other table others) = by (bytes_eq other name) (table_entered index name others)
  where
    by : (same : Bool) → table_for name (entered_below index others) ≡ entered_table index (table_for name others) →
        cond same (entered_table index table) (table_for name (entered_below index others)) ≡ entered_table index (cond same table (table_for name others))
    by true rest = refl
    by false rest = rest

below_entered : (index : List ℕ) (merged : Merged) → tables_below (entered_table index merged) ≡ entered_below index (tables_below merged)
below_entered index (Table_of value redeclared below) = refl

path_entered : (index : List ℕ) (merged : Merged) (path : List (List ℕ)) → at_path (entered_table index merged) path ≡ entered_table index (at_path merged path)
path_entered index merged [] = refl
path_entered index merged (name ∷ names) =
    ap (λ below. at_path (table_for name below) names) (below_entered index merged)
    ∙ ap (λ table. at_path table names) (table_entered index name (tables_below merged))
    ∙ path_entered index (table_for name (tables_below merged)) names

value_entered : (index : List ℕ) (merged : Merged) → value_here (entered_table index merged) ≡ option_map (entered_value index) (value_here merged)
value_entered index (Table_of value redeclared below) = refl

redeclared_stays : (index : List ℕ) (merged : Merged) → redeclared_here (entered_table index merged) ≡ redeclared_here merged
redeclared_stays index (Table_of value redeclared below) = refl

-- at a path the table has what the one that is entered has there
pub value_stepped : (index : List ℕ) (merged : Merged) (path : List (List ℕ)) →
    value_here (at_path (stepped index merged) path) ≡ option_map (entered_value index) (value_here (at_path merged path))
value_stepped index merged [] = refl
value_stepped index merged (name ∷ names) =
    ap (λ table. value_here (at_path table names)) (table_entered index name (tables_below merged))
    ∙ ap value_here (path_entered index (table_for name (tables_below merged)) names)
    ∙ value_entered index (at_path (table_for name (tables_below merged)) names)

pub redeclared_stepped : (index : List ℕ) (merged : Merged) (next : List ℕ) (path : List (List ℕ)) →
    redeclared_here (at_path (stepped index merged) (next ∷ path)) ≡ redeclared_here (at_path merged (next ∷ path))
redeclared_stepped index merged next path =
    ap (λ table. redeclared_here (at_path table path)) (table_entered index next (tables_below merged))
    ∙ ap redeclared_here (path_entered index (table_for next (tables_below merged)) path)
    ∙ redeclared_stays index (at_path (table_for next (tables_below merged)) path)

-- ---- what it stands for

picked_of : (index : List ℕ) (value : Option Merged_value) →
    option_map (λ one. one.picked) (option_map (entered_value index) value) ≡ entered_pick index (option_map (λ one. one.each) value) (option_map (λ one. one.picked) value)
picked_of index None = refl
picked_of index (Some value) = refl

marks_in : (index : List ℕ) (value : Option Merged_value) →
    option_map (λ one. one.each) (option_map (entered_value index) value) ≡ option_map rest_of (option_map (λ one. one.each) value)
marks_in index None = refl
marks_in index (Some value) = refl

pub steps_in : (table : Table) (from : Merged) (name index : List ℕ) → StepsIn table from name index (stepped_in from name index)
steps_in table from name index sources stands = record {
  values = λ path.
      ap (option_map (λ (one : Merged_value). one.picked)) (value_stepped index (table_for name (tables_below from)) path)
      ∙ picked_of index (value_here (at_path from (name ∷ path)))
      ∙ ap (λ ms. entered_pick index ms (binding from (name ∷ path))) (stands.each (name ∷ path))
      ∙ ap (entered_pick index (marks_of table sources (name ∷ path))) (stands.values (name ∷ path))
      ∙ sym (picked_entered table sources name index path);
  each = λ path.
      ap (option_map (λ (one : Merged_value). one.each)) (value_stepped index (table_for name (tables_below from)) path)
      ∙ marks_in index (value_here (at_path from (name ∷ path)))
      ∙ ap (option_map rest_of) (stands.each (name ∷ path))
      ∙ sym (marks_entered table sources name index path);
  redeclarations = redeclares;
}
  where
    redeclares : (path : List (List ℕ)) →
        redeclared_here (at_path (stepped_in from name index) path) ≡ option_map redeclared_as (redeclared_path table (parts table sources name index) path)
    redeclares [] = refl
    redeclares (next ∷ path) =
        redeclared_stepped index (table_for name (tables_below from)) next path
        ∙ stands.redeclarations (name ∷ next ∷ path)
        ∙ sym (redeclared_entered table sources name index next path)
