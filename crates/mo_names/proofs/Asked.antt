-- What lookup finds where little can be asked it finds whatever else is asked: each value that it gives under one asking it gives under
-- another that answers at least as much.
use Rattle.std.proofs.Common.{◌≡◌, ℕ, ℤ, Bool, true, false, List, [], ◌∷◌, Option, Some, None, Ok, Err, refl, if◌then◌else◌}
use Rattle.std.specs.List.{list_all}
use Rattle.mo_syntax.specs.Outcome.{Outcome, and_then}
use Rattle.mo_syntax.specs.declared.expr.Expr.{Expr}
use Rattle.mo_syntax.specs.declared.expr.PartOf.{PartOf}
use Rattle.mo_syntax.specs.declared.expr.ReferenceOf.{ReferenceOf}
use Rattle.mo_syntax.specs.declared.class.Import.{Import}
use Rattle.mo_syntax.specs.declared.class.Import.TheVariants.{Renamed, Named, Group, All as Star}
use Rattle.mo_syntax.specs.declared.place.Broken.{Broken}
use Rattle.mo_syntax.specs.declared.place.Place.{Place}
use Rattle.mo_scope.specs.Rows.{Table, Row, row_at, Clause}
use Rattle.mo_scope.specs.Frames.{Frame, Top, In, Scope, Member, class_of}
use Rattle.mo_scope.specs.Lookup.{Found, Walked, Asking, contains, own_members, named, members_in, counts_in_package, Element, Other, Absent, reached, reached_own, is_package, counted, behind_class, class_wanted, first_at_top, import_behind, imported, imported_package, through_star, and_also, imported_as, found_by_import, found_by_star, found_by_each, found_by_imports, Met, found_element, found_in, found_from, is_closed, iteration, found_by_name, found_first, Classed, classed, class_behind, class_named, base_class, base_of}

-- ---- values that stay

-- each value of the first outcome is the value of the second
pub record Also {A : Type 0} (o o' : Outcome A) : Type 0 where
  pub also : (value : A) → o ≡ Ok value → o' ≡ Ok value

pub also_same : {A : Type 0} (o : Outcome A) → Also o o
also_same o = record { also = λ value is. is }

pub also_never : {A : Type 0} (b : Broken) (o : Outcome A) → Also (Err b) o
also_never b o = record { also = λ value is. absurd cc }

pub also_then : {A B : Type 0} (o o' : Outcome A) (f f' : A → Outcome B) → Also o o' → ((value : A) → Also (f value) (f' value)) → Also (and_then o f) (and_then o' f')
also_then (Ok a) o' f f' h next = record { also = λ value is. rw (h.also a refl) ((next a).also value is) }
also_then (Err b) o' f f' h next = record { also = λ value is. absurd cc }

pub also_if : {A : Type 0} (b : Bool) (x y x' y' : Outcome A) → Also x x' → Also y y' → Also (if b then x else y) (if b then x' else y')
also_if true x y x' y' hx hy = hx
also_if false x y x' y' hx hy = hy

-- ---- askings

-- What the first asking answers the second answers; a class whose elements it gives is not having its bases found in the second, and one
-- that is having them found in the first is in the second.
pub record Above (a b : Asking) : Type 0 where
  pub elements : (place : Place) (frame : Frame) → Also (a.elements place frame) (b.elements place frame)
  pub free : (place : Place) (frame : Frame) (walked : Walked) → a.elements place frame ≡ Ok walked → contains b.busy (class_of frame) ≡ false
  pub busy : (class : ℕ) → contains a.busy class ≡ true → contains b.busy class ≡ true

module _ (table : Table) (a b : Asking) (above : Above a b) where
  reached_also : (place : Place) (frame : Frame) (name : List ℕ) → Also (reached table a place frame name) (reached table b place frame name)
  reached_also place frame name = by (named name (own_members table frame)) refl
    where
      by : (member : Option Member) → named name (own_members table frame) ≡ member → Also (reached table a place frame name) (reached table b place frame name)
      by (Some member) is = rw is (also_same _)
      by None is = rw is (also_then (a.elements place frame) (b.elements place frame) _ _ (above.elements place frame) (λ walked. also_same _))

  is_package_also : (place : Place) (frame : Frame) → Also (is_package table a place frame) (is_package table b place frame)
  is_package_also place frame = by (contains a.busy (class_of frame)) refl
    where
      asked : (o : Outcome Walked) → a.elements place frame ≡ o →
          Also (and_then o (λ walked. Ok (list_all counts_in_package (members_in walked)))) (is_package table b place frame)
      asked (Ok walked) is = rw (above.free place frame walked is, (above.elements place frame).also walked is) (also_same _)
      asked (Err broken) is = also_never broken _

      by : (has : Bool) → contains a.busy (class_of frame) ≡ has → Also (is_package table a place frame) (is_package table b place frame)
      by true is = rw (is, above.busy (class_of frame) is) (also_same _)
      by false is = rw is (asked (a.elements place frame) refl)

  counted_also : (ask place : Place) (frame : Frame) (member : Member) → Also (counted table a ask place frame member) (counted table b ask place frame member)
  counted_also ask place frame member = also_then (is_package table a ask frame) (is_package table b ask frame) _ _ (is_package_also ask frame) (λ all. also_same _)

  behind_class_also : (ask place : Place) (component : Option Place) (frame : Frame) (name : List ℕ) →
      Also (behind_class table a ask place component frame name) (behind_class table b ask place component frame name)
  behind_class_also ask place None frame name =
      also_then (reached table a ask frame name) (reached table b ask frame name) _ _ (reached_also ask frame name)
      (elim [
        | Absent ↦ also_same _
        | Other found ↦ also_same _
        | Element member ↦ also_then (counted table a ask place frame member) (counted table b ask place frame member) _ _ (counted_also ask place frame member) (λ m. also_same _)
      ])
  behind_class_also ask place (Some wrong) frame name =
      also_then (reached table a ask frame name) (reached table b ask frame name) _ _ (reached_also ask frame name)
      (elim [
        | Absent ↦ also_same _
        | Other found ↦ also_same _
        | Element member ↦ also_then (counted table a ask place frame member) (counted table b ask place frame member) _ _ (counted_also ask place frame member) (λ m. also_same _)
      ])

  -- ---- imports

  import_behind_also : (ask place : Place) (found : Found) (names : List (List ℕ)) → Also (import_behind table a ask place found names) (import_behind table b ask place found names)
  import_behind_also ask place found [] = also_same _
  import_behind_also ask place found (name ∷ []) =
      also_then (class_wanted place found) (class_wanted place found) _ _ (also_same _)
      (λ frame. also_then (behind_class table a ask place None frame name) (behind_class table b ask place None frame name) _ _ (behind_class_also ask place None frame name)
      (λ next. import_behind_also ask place next []))
  import_behind_also ask place found (name ∷ other ∷ names) =
      also_then (class_wanted place found) (class_wanted place found) _ _ (also_same _)
      (λ frame. also_then (behind_class table a ask place (Some place) frame name) (behind_class table b ask place (Some place) frame name) _ _ (behind_class_also ask place (Some place) frame name)
      (λ next. import_behind_also ask place next (other ∷ names)))

  imported_also : (ask place : Place) (path : List (List ℕ)) → Also (imported table a ask place path) (imported table b ask place path)
  imported_also ask place [] = also_same _
  imported_also ask place (name ∷ names) =
      also_then (first_at_top table place name) (first_at_top table place name) _ _ (also_same _) (λ found. import_behind_also ask place found names)

  abbrev package_behind : Asking → Place → Place → Frame → List (List ℕ) → Outcome Frame
  package_behind asking ask place frame [] = Ok frame
  package_behind asking ask place frame (name ∷ names) =
      and_then (behind_class table asking ask place (Some place) frame name) (λ found.
      and_then (class_wanted place found) (λ next. package_behind asking ask place next names))

  package_behind_also : (ask place : Place) (frame : Frame) (names : List (List ℕ)) → Also (package_behind a ask place frame names) (package_behind b ask place frame names)
  package_behind_also ask place frame [] = also_same _
  package_behind_also ask place frame (name ∷ names) =
      also_then (behind_class table a ask place (Some place) frame name) (behind_class table b ask place (Some place) frame name) _ _ (behind_class_also ask place (Some place) frame name)
      (λ found. also_then (class_wanted place found) (class_wanted place found) _ _ (also_same _) (λ next. package_behind_also ask place next names))

  imported_package_also : (ask place : Place) (path : List (List ℕ)) → Also (imported_package table a ask place path) (imported_package table b ask place path)
  imported_package_also ask place [] = also_same _
  imported_package_also ask place (name ∷ names) =
      also_then (first_at_top table place name) (first_at_top table place name) _ _ (also_same _)
      (λ found. also_then (class_wanted place found) (class_wanted place found) _ _ (also_same _) (λ frame. package_behind_also ask place frame names))

  through_star_also : (ask place : Place) (frame : Frame) (name : List ℕ) → Also (through_star table a ask place frame name) (through_star table b ask place frame name)
  through_star_also ask place frame name =
      also_then (reached table a ask frame name) (reached table b ask frame name) _ _ (reached_also ask frame name)
      (elim [
        | Absent ↦ also_same _
        | Other found ↦ also_same _
        | Element member ↦ also_if member.hidden _ _ _ _ (also_same _)
            (also_then (counted table a ask place frame member) (counted table b ask place frame member) _ _ (counted_also ask place frame member) (λ m. also_same _))
      ])

  found_by_import_also : (ask : Place) (name : List ℕ) (clause : Import) → Also (found_by_import table a ask name clause) (found_by_import table b ask name clause)
  found_by_import_also ask name clause = by (imported_as name clause) refl
    where
      by : (path : Option (List (List ℕ) × Place)) → imported_as name clause ≡ path → Also (found_by_import table a ask name clause) (found_by_import table b ask name clause)
      by None is = rw is (also_same _)
      by (Some path) is = rw is (also_then (imported table a ask path.1 path.0) (imported table b ask path.1 path.0) _ _ (imported_also ask path.1 path.0) (λ found. also_same _))

  found_by_star_also : (ask : Place) (name : List ℕ) (clause : Import) → Also (found_by_star table a ask name clause) (found_by_star table b ask name clause)
  found_by_star_also ask name (Star path place) =
      also_then (imported_package table a ask place path.0) (imported_package table b ask place path.0) _ _ (imported_package_also ask place path.0)
      (λ frame. through_star_also ask place frame name)
  found_by_star_also ask name (Renamed alias path place) = also_same _
  found_by_star_also ask name (Named path place) = also_same _
  found_by_star_also ask name (Group path names place) = also_same _

  found_by_each_also : (find find' : Import → Outcome (Option Found)) (ask : Place) → ((clause : Import) → Also (find clause) (find' clause)) →
      (so_far : Option Found) (clauses : List Import) → Also (found_by_each find ask so_far clauses) (found_by_each find' ask so_far clauses)
  found_by_each_also find find' ask each so_far [] = also_same _
  found_by_each_also find find' ask each so_far (clause ∷ clauses) =
      also_then (find clause) (find' clause) _ _ (each clause)
      (λ found. also_then (and_also ask so_far found) (and_also ask so_far found) _ _ (also_same _) (λ so_far. found_by_each_also find find' ask each so_far clauses))

  found_by_imports_also : (ask : Place) (row : Row) (name : List ℕ) → Also (found_by_imports table a ask row name) (found_by_imports table b ask row name)
  found_by_imports_also ask row name =
      also_then (found_by_each (found_by_import table a ask name) ask None row.imports) (found_by_each (found_by_import table b ask name) ask None row.imports) _ _
      (found_by_each_also _ _ ask (found_by_import_also ask name) None row.imports)
      (elim [
        | Some found ↦ also_same _
        | None ↦ found_by_each_also _ _ ask (found_by_star_also ask name) None row.imports
      ])

  -- ---- a simple name

  found_element_also : (bare : Bool) (frame : Frame) (place : Place) (name : List ℕ) → Also (found_element table a bare frame place name) (found_element table b bare frame place name)
  found_element_also bare frame place name =
      also_then (if bare then reached_own table frame name else reached table a place frame name) (if bare then reached_own table frame name else reached table b place frame name) _ _
      (also_if bare _ _ _ _ (also_same _) (reached_also place frame name))
      (elim [
        | Element member ↦ also_same _
        | Other found ↦ also_same _
        | Absent ↦ also_same _
      ])

  abbrev through_imports : Asking → Place → List ℕ → Option Row → Outcome (Option Met)
  through_imports asking place name None = Ok None
  through_imports asking place name (Some row) = and_then (found_by_imports table asking place row name) (λ found. Ok (imported_met found))
    where
      imported_met : Option Found → Option Met
      imported_met None = None
      imported_met (Some found) = Some (record { found = found; near = false })

  through_imports_also : (place : Place) (name : List ℕ) (row : Option Row) → Also (through_imports a place name row) (through_imports b place name row)
  through_imports_also place name None = also_same _
  through_imports_also place name (Some row) =
      also_then (found_by_imports table a place row name) (found_by_imports table b place row name) _ _ (found_by_imports_also place row name)
      (elim [
        | Some found ↦ also_same _
        | None ↦ also_same _
      ])

  found_in_also : (bare near : Bool) (frame : Frame) (place : Place) (name : List ℕ) → Also (found_in table a bare near frame place name) (found_in table b bare near frame place name)
  found_in_also bare near frame place name =
      also_then (found_element table a bare frame place name) (found_element table b bare frame place name) _ _ (found_element_also bare frame place name)
      (elim [
        | Some found ↦ also_same _
        | None ↦ through_imports_also place name (row_at table (class_of frame))
      ])

  found_from_also : (bare near : Bool) (frame : Frame) (place : Place) (name : List ℕ) → Also (found_from table a bare near frame place name) (found_from table b bare near frame place name)
  found_from_also bare near Top place name = also_same _
  found_from_also bare near (In class sources outer at owner) place name =
      also_then (found_in table a bare near (In class sources outer at owner) place name) (found_in table b bare near (In class sources outer at owner) place name) _ _
      (found_in_also bare near (In class sources outer at owner) place name)
      (elim [
        | Some found ↦ also_same _
        | None ↦ also_if (is_closed table (In class sources outer at owner)) _ _ _ _ (also_same _) (found_from_also false false outer place name)
      ])

  found_by_name_also : (bare : Bool) (scope : Scope) (place : Place) (name : List ℕ) → Also (found_by_name table a bare scope place name) (found_by_name table b bare scope place name)
  found_by_name_also bare scope place name = by (iteration scope.iterations name) refl
    where
      by : (value : Option ℤ) → iteration scope.iterations name ≡ value → Also (found_by_name table a bare scope place name) (found_by_name table b bare scope place name)
      by (Some value) is = rw is (also_same _)
      by None is = rw is (found_from_also bare true scope.frame place name)

  found_first_also : (bare top : Bool) (scope : Scope) (part : PartOf Expr) → Also (found_first table a bare top scope part) (found_first table b bare top scope part)
  found_first_also bare top scope part = also_if top _ _ _ _ (also_same _) (found_by_name_also bare scope part.place part.name)

  -- ---- the name of a class, and bases

  class_behind_also : (class : Classed) (parts : List (PartOf Expr)) → Also (class_behind table a class parts) (class_behind table b class parts)
  class_behind_also class [] = also_same _
  class_behind_also class (part ∷ parts) =
      also_then (behind_class table a part.place part.place (Some part.place) class.frame part.name) (behind_class table b part.place part.place (Some part.place) class.frame part.name) _ _
      (behind_class_also part.place part.place (Some part.place) class.frame part.name)
      (λ found. also_then (classed part.place found) (classed part.place found) _ _ (also_same _) (λ next. class_behind_also next parts))

  class_named_also : (bare : Bool) (scope : Scope) (reference : ReferenceOf Expr) → Also (class_named table a bare scope reference) (class_named table b bare scope reference)
  class_named_also bare scope reference = by reference.parts refl
    where
      by : (parts : List (PartOf Expr)) → reference.parts ≡ parts → Also (class_named table a bare scope reference) (class_named table b bare scope reference)
      by [] is = rw is (also_same _)
      by (part ∷ parts) is =
          rw is (also_then (found_first table a bare reference.top scope part) (found_first table b bare reference.top scope part) _ _ (found_first_also bare reference.top scope part)
          (λ met. also_then (classed part.place met.found) (classed part.place met.found) _ _ (also_same _) (λ class. class_behind_also class parts)))

  base_class_also : (frame : Frame) (clause : Clause) → Also (base_class table a frame clause) (base_class table b frame clause)
  base_class_also frame clause =
      also_then (class_named table a true (record { frame = frame; iterations = [] }) clause.base) (class_named table b true (record { frame = frame; iterations = [] }) clause.base) _ _
      (class_named_also true (record { frame = frame; iterations = [] }) clause.base) (λ class. also_same _)

  pub base_of_also : (frame : Frame) (row : Row) (clause : Clause) → Also (base_of table a frame row clause) (base_of table b frame row clause)
  base_of_also frame row clause = also_then (base_class table a frame clause) (base_class table b frame clause) _ _ (base_class_also frame clause) (λ class. also_same _)
