-- One table of modifiers for a list of sources (Modelica Language Specification 3.5, sections 7.2 and 7.3).
use Rattle.std.specs.Prelude.{◌≡◌, ℕ, Bool, List, [], ◌∷◌, Option, None, option_map, if◌then◌else◌}
use Rattle.std.specs.Str.{bytes_eq}
use Rattle.mo_scope.specs.Rows.{Table, Declares}
use Rattle.mo_scope.specs.Frames.{Scope, Source}
use Rattle.mo_scope.specs.Parts.{Picked, Redeclaration, picked, redeclared_path, parts}
use Rattle.mo_mods.specs.Marks.{marks_of}

-- ---- tables

-- A value with the scope that it is looked up in and its pending indices, and which names of its path carry `each`.
pub record Merged_value : Type 0 where
  pub picked : Picked
  pub each : List Bool

-- What declares an element anew, and the scope that this is looked up in.
pub record Redeclared : Type 0 where
  pub declares : Declares
  pub scope : Scope

mutual
  -- what is given for a path: a value, a redeclaration, and the table below it
  pub data Merged : Type 0 where
    Table_of : (value : Option Merged_value) → (redeclared : Option Redeclared) → (below : Below) → Merged

  -- tables by name
  pub data Below : Type 0 where
    Nothing_below : Below
    Below_then : (name : List ℕ) → (table : Merged) → (others : Below) → Below

abbrev pub nothing_merged : Merged
nothing_merged = Table_of None None Nothing_below

abbrev pub value_here : Merged → Option Merged_value
value_here (Table_of value redeclared below) = value

abbrev pub redeclared_here : Merged → Option Redeclared
redeclared_here (Table_of value redeclared below) = redeclared

abbrev pub tables_below : Merged → Below
tables_below (Table_of value redeclared below) = below

-- the table for a name; nothing is given for a name that is not there
abbrev pub table_for : List ℕ → Below → Merged
table_for name Nothing_below = nothing_merged
table_for name (Below_then other table others) = if bytes_eq other name then table else table_for name others

abbrev pub at_path : Merged → List (List ℕ) → Merged
at_path merged [] = merged
at_path merged (name ∷ names) = at_path (table_for name (tables_below merged)) names

-- the value that a table has for a path
abbrev pub binding : Merged → List (List ℕ) → Option Picked
binding merged path = option_map (λ value. value.picked) (value_here (at_path merged path))

abbrev pub marks : Merged → List (List ℕ) → Option (List Bool)
marks merged path = option_map (λ value. value.each) (value_here (at_path merged path))

-- ---- what a table stands for

abbrev pub redeclared_as : Redeclaration → Redeclared
redeclared_as redeclaration = record { declares = redeclaration.declares; scope = redeclaration.source.scope }

-- For every path the table has the value that is picked from the sources, the marks of the argument that gives it, and the redeclaration
-- of the first source that redeclares the path.
pub record StandsFor (table : Table) (merged : Merged) (sources : List Source) : Type 0 where
  pub values : (path : List (List ℕ)) → binding merged path ≡ picked table sources path
  pub each : (path : List (List ℕ)) → marks merged path ≡ marks_of table sources path
  pub redeclarations : (path : List (List ℕ)) →
      redeclared_here (at_path merged path) ≡ option_map redeclared_as (redeclared_path table sources path)

-- ---- what is promised of tables

-- For every list that the first table stands for, the second one stands for the parts of that list for the name, entered at the index.
abbrev pub StepsIn : Table → (from : Merged) → (name : List ℕ) → (index : List ℕ) → (to : Merged) → Type 0
StepsIn table from name index to =
    (sources : List Source) → StandsFor table from sources → StandsFor table to (parts table sources name index)
