-- The class of a path is the class with its number in the class table, and the path is that of its row.
use Rattle.std.proofs.Common.{◌≡◌, ◌≢◌, ℕ, zero, suc, ◌+◌, Bool, true, false, List, [], ◌∷◌, ◌++◌, map, Option, Some, None, refl, ap, sym, ◌∙◌, subst, arith}
use Rattle.std.specs.Prelude.{if◌then◌else◌, slice_get}
use Rattle.mo_syntax.specs.declared.class.FileTree.{FileTree}
use Rattle.mo_syntax.specs.Classes.{Home, Under, Inside, Apart, ClassRow, Declared, Component, Class, Declaration}
use Rattle.mo_syntax.specs.ClassTable.{class_count, class_of_path, declarations, first_number, first_row, otherwise, path_eq, path_of}
use Rattle.mo_syntax.specs.SoundTree.{IsSoundNamedTree, Naming}
use Rattle.mo_syntax.proofs.Searching.{paths_same}
use Rattle.mo_scope.specs.Places.{Every}
use Rattle.mo_scope.specs.Rows.{ClassEntry, Row, Table, entries_of, entry_in, number_among, row_at, row_of, table_of}
use Rattle.mo_scope.proofs.RowsFound.{row_numbered}
use Rattle.mo_scope.proofs.laws.Numbers.{numbers_from, table_numbered}
use Rattle.mo_scope.proofs.laws.Standing.{each_flat_map}
use Rattle.mo_scope.specs.Lookup.{type_names}
use Rattle.mo_typing.specs.Indices.{or_else}
use Rattle.mo_eval.specs.Resolving.{path_of_class}
use Rattle.mo_path_names.proofs.laws.Declaring.{DeclarationNamed, NamedAs, declarations_named}

-- ---- each row is found by its number

from_places : {A : Type 0} (P : A → Type 0) (xs : List A) → ((k : ℕ) (x : A) → slice_get xs k ≡ Some x → P x) → Every P xs
from_places P [] h = tt
from_places P (x ∷ xs) h = (h zero x refl, from_places P xs (λ k y at. h (suc k) y at))

number_is : (table : Table) (n count k : ℕ) (row : Row) → map (λ row. row.number) table ≡ numbers_from n count → slice_get table k ≡ Some row → row.number ≡ n + k
number_is [] n count k row is at = absurd cc
number_is (first ∷ table) n zero k row is at = absurd cc
number_is (first ∷ table) n (suc count) zero row is at =
    let here : first.number ≡ n = cc in
    let same : first ≡ row = cc in
    ap (λ (r : Row). r.number) (sym same) ∙ here ∙ omega arith
number_is (first ∷ table) n (suc count) (suc k) row is at =
    let rest : map (λ (r : Row). r.number) table ≡ numbers_from (n + 1) count = cc in
    number_is table (n + 1) count k row rest at ∙ omega arith

abbrev IsFound : Table → Row → Type 0
IsFound table row = row_at table row.number ≡ Some row

rows_found : (files : List FileTree) → Every (IsFound (table_of files)) (table_of files)
rows_found files =
    from_places (IsFound (table_of files)) (table_of files) (λ k row at.
    ap (row_at (table_of files)) (number_is (table_of files) first_number (class_count files) k row (table_numbered files) at)
    ∙ row_numbered (table_of files) first_number (class_count files) k (table_numbered files) ∙ at)

every_unmapped : {A B : Type 0} (P : B → Type 0) (f : A → B) (xs : List A) → Every P (map f xs) → Every (λ x. P (f x)) xs
every_unmapped P f [] h = tt
every_unmapped P f (x ∷ xs) h = (h.0, every_unmapped P f xs h.1)

-- ---- the class of a path

abbrev row_with : List (List ℕ) → Declared → Option (List (List ℕ)) → Option ClassRow
row_with path Component at = None
row_with path (Class row) None = None
row_with path (Class row) (Some at) = if path_eq at path then Some row else None

abbrev entry_with : Home → Declared → List ClassEntry
entry_with home Component = []
entry_with home (Class row) = record { row = row; home = home } ∷ []

abbrev path_under : Home → List ℕ → Option (List (List ℕ))
path_under (Under path) name = Some (path ++ name ∷ [])
path_under (Inside n) name = None
path_under Apart name = None

under_is : (d : Declaration) → path_of d ≡ path_under d.home d.name
under_is d = by d.home refl
  where
    by : (home : Home) → d.home ≡ home → path_of d ≡ path_under d.home d.name
    by (Under path) is = rw is refl
    by (Inside n) is = rw is refl
    by Apart is = rw is refl

same_some : {A : Type 0} (a b : A) → Some a ≡ Some b → a ≡ b
same_some {A} a b e = ap held e
  where
    held : Option A → A
    held (Some x) = x
    held None = a

-- the class stands under a path, and what holds of each class holds of it
record Stands (P : ClassEntry → Type 0) (path : List (List ℕ)) (row : ClassRow) : Type 0 where
  under : List (List ℕ)
  is : path ≡ under ++ row.class.name ∷ []
  holds : P (record { row = row; home = Under under })

module _ (naming : Naming) (P : ClassEntry → Type 0) (path : List (List ℕ)) (row : ClassRow) where
  module _ (rest : Option ClassRow) (more : rest ≡ Some row → Stands P path row) where
    here : (under name : List (List ℕ)) (r : ClassRow) → name ≡ under ++ r.class.name ∷ [] → P (record { row = r; home = Under under }) → otherwise (if path_eq name path then Some r else None) rest ≡ Some row → Stands P path row
    here under name r is holds found = by (path_eq name path) refl found
      where
        by : (b : Bool) → path_eq name path ≡ b → otherwise (if b then Some r else None) rest ≡ Some row → Stands P path row
        by true same e =
            let one : r ≡ row = same_some r row e in
            subst (Stands P path) one (record { under = under; is = sym (paths_same name path same) ∙ is; holds = holds })
        by false same e = more e

    step : (home : Home) (name : List ℕ) (what : Declared) → NamedAs naming name what → Every P (entry_with home what) → otherwise (row_with path what (path_under home name)) rest ≡ Some row → Stands P path row
    step home name Component named holds e = more e
    step (Under under) name (Class r) named holds e = here under (under ++ name ∷ []) r (ap (λ (n : List ℕ). under ++ n ∷ []) named) holds.0 e
    step (Inside n) name (Class r) named holds e = more e
    step Apart name (Class r) named holds e = more e

  first_stands : (ds : List Declaration) → Every (DeclarationNamed naming) ds → Every (λ d. Every P (entry_in d)) ds → first_row path ds ≡ Some row → Stands P path row
  first_stands [] named holds found = absurd cc
  first_stands (d ∷ ds) named holds found = step (first_row path ds) (first_stands ds named.1 holds.1) d.home d.name d.what named.0.as_class holds.0
      (subst (λ (at : Option (List (List ℕ))). otherwise (row_with path d.what at) (first_row path ds) ≡ Some row) (under_is d) found)

last_some : {A : Type 0} (xs : List A) (x : A) → xs ++ x ∷ [] ≡ [] → ⊥
last_some [] x e = cc
last_some (y ∷ ys) x e = cc

-- the row of the class of a path
pub record IsClassOf (files : List FileTree) (path : List (List ℕ)) (row : ClassRow) : Type 0 where
  pub found : Row
  pub at : row_at (table_of files) row.number ≡ Some found
  pub is : path_of_class (table_of files) row.number ≡ path
  pub some : path ≢ []

pub class_is : (naming : Naming) (files : List FileTree) (path : List (List ℕ)) (row : ClassRow) → IsSoundNamedTree naming files → class_of_path files path ≡ Some row → IsClassOf files path row
class_is naming files path row sound found = record {
  found = made (record { row = row; home = Under stands.under });
  at = stands.holds;
  is = ap path_by stands.holds ∙ sym stands.is;
  some = λ none. last_some stands.under row.class.name (sym stands.is ∙ none);
}
  where
    made : ClassEntry → Row
    made = row_of files (number_among (entries_of files))

    path_in : Home → List (List ℕ)
    path_in (Under path) = path
    path_in home = []

    path_by : Option Row → List (List ℕ)
    path_by None = or_else (slice_get type_names row.number) [] ∷ []
    path_by (Some r) = path_in r.home ++ r.class.name ∷ []

    stands : Stands (λ entry. IsFound (table_of files) (made entry)) path row
    stands = first_stands naming (λ entry. IsFound (table_of files) (made entry)) path row (declarations files) (declarations_named naming files sound)
        (each_flat_map (λ entry. IsFound (table_of files) (made entry)) entry_in (declarations files) (every_unmapped (IsFound (table_of files)) made (entries_of files) (rows_found files))) found
