-- The rows that are made of the classes of the files.
use Rattle.std.proofs.Common.{◌≡◌, ℕ, ◌&&◌, List, [], ◌∷◌, ◌++◌, map, flat_map, refl, ap, sym, ◌∙◌}
use Rattle.std.specs.Prelude.{if◌then◌else◌}
use Rattle.std.proofs.Math.Path.{fun_ext}
use Rattle.mo_syntax.specs.declared.class.Body.{out-Body}
use Rattle.mo_syntax.specs.declared.class.FileTree.{FileTree}
use Rattle.mo_syntax.specs.declared.place.Place.{Place}
use Rattle.mo_syntax.specs.Classes.{Home, Under, Inside, Apart, Declared, Component, Class, Declaration}
use Rattle.mo_syntax.specs.ClassTable.{declarations, path_eq, placed_under}
use Rattle.mo_scope.specs.Held.{path_key, placed_among, placed_held, row_with}
use Rattle.mo_scope.specs.Rows.{Part, Base_of, Row, Table, ClassEntry, entry_in, entries_of, items_in, bases_in, part_of, number_by, number_among, number_at, place_eq, placed_in, placed_part, row_of, table_of}

-- a class is found by its place among the rows as among the classes
number_at_rows : (files : List FileTree) (number : Place → ℕ) (entries : List ClassEntry) (place : Place) → number_at (map (row_of files number) entries) place ≡ number_among entries place
number_at_rows files number [] place = refl
number_at_rows files number (entry ∷ entries) place =
    ap (λ n. if place_eq entry.row.class.place place then entry.row.number else n) (number_at_rows files number entries place)

pub number_at_table : (files : List FileTree) (entries : List ClassEntry) (place : Place) → entries ≡ entries_of files → number_among entries place ≡ number_at (table_of files) place
number_at_table files entries place same =
    ap (λ es. number_among es place) same ∙ sym (number_at_rows files (number_among (entries_of files)) (entries_of files) place)

placed_same : (path : List (List ℕ)) (ds : List Declaration) → placed_among path (flat_map entry_in ds) ≡ placed_under path ds
placed_same path [] = refl
placed_same path (d ∷ ds) = by (placed_same path ds) d.home d.what refl refl
  where
    by : placed_among path (flat_map entry_in ds) ≡ placed_under path ds → (home : Home) (what : Declared) → d.home ≡ home → d.what ≡ what → placed_among path (flat_map entry_in (d ∷ ds)) ≡ placed_under path (d ∷ ds)
    by rest (Under at) (Class row) is have = rw (is, have) (ap (λ l. (if row.outermost && path_eq at path then row ∷ [] else []) ++ l) rest)
    by rest (Under at) Component is have = rw (is, have) rest
    by rest (Inside n) (Class row) is have = rw (is, have) rest
    by rest (Inside n) Component is have = rw (is, have) rest
    by rest Apart (Class row) is have = rw (is, have) rest
    by rest Apart Component is have = rw (is, have) rest

placed_held_same : (files : List FileTree) (group : List ℕ → List Part) → ((path : List (List ℕ)) → group (path_key path) ≡ map placed_part (placed_among path (entries_of files))) →
    (home : Home) (name : List ℕ) → placed_held group home name ≡ map placed_part (placed_in files home name)
placed_held_same files group grouped (Under path) name = grouped (path ++ name ∷ []) ∙ ap (map placed_part) (placed_same (path ++ name ∷ []) (declarations files))
placed_held_same files group grouped (Inside n) name = refl
placed_held_same files group grouped Apart name = refl

row_made : (files : List FileTree) (number : Place → ℕ) (group : List ℕ → List Part) → ((path : List (List ℕ)) → group (path_key path) ≡ map placed_part (placed_among path (entries_of files))) →
    (entry : ClassEntry) → row_with number group entry ≡ row_of files number entry
row_made files number group grouped entry =
    let own : List Part = flat_map (part_of (number_by number)) (items_in (out-Body entry.row.class.body)) ++ map Base_of (bases_in (out-Body entry.row.class.body)) in
    let rest : Row = row_of files number entry in
    ap (λ (placed : List Part). record {
      number = rest.number;
      home = rest.home;
      outermost = rest.outermost;
      class = rest.class;
      form = rest.form;
      parts = own ++ placed;
      replacing = rest.replacing;
      imports = rest.imports;
    }) (placed_held_same files group grouped entry.home entry.row.class.name)

each_same : {A B : Type 0} (f g : A → B) → ((x : A) → f x ≡ g x) → (xs : List A) → map f xs ≡ map g xs
each_same f g same [] = refl
each_same f g same (x ∷ xs) = ap (λ y. y ∷ map f xs) (same x) ∙ ap (λ ys. g x ∷ ys) (each_same f g same xs)

pub rows_made : (files : List FileTree) (number : Place → ℕ) (group : List ℕ → List Part) (entries : List ClassEntry) (rows : Table) → rows ≡ map (row_with number group) entries → entries ≡ entries_of files →
    ((place : Place) → number place ≡ number_among entries place) → ((path : List (List ℕ)) → group (path_key path) ≡ map placed_part (placed_among path entries)) → rows ≡ table_of files
rows_made files number group entries rows are same numbered grouped =
    let numbers : number ≡ number_among (entries_of files) = fun_ext numbered ∙ ap number_among same in
    let groups : (path : List (List ℕ)) → group (path_key path) ≡ map placed_part (placed_among path (entries_of files)) = λ path. grouped path ∙ ap (λ es. map placed_part (placed_among path es)) same in
    are ∙ ap (map (row_with number group)) same
    ∙ ap (λ (n : Place → ℕ). map (row_with n group) (entries_of files)) numbers
    ∙ each_same (row_with (number_among (entries_of files)) group) (row_of files (number_among (entries_of files))) (row_made files (number_among (entries_of files)) group groups) (entries_of files)
