-- The asked class: its row, its frame and those around it.
use Rattle.std.proofs.Common.{◌≡◌, ℕ, zero, suc, ◌+◌, ◌<◌, Bool, true, false, cond, List, [], ◌∷◌, ◌++◌, drop, Option, Some, None, Ok, refl, ap, sym, subst, ◌∙◌, eqb-true, arith}
use Rattle.std.specs.Prelude.{find, nat_eq, option_map, slice_get, IfSome, if◌then◌else◌}
use Rattle.mo_syntax.specs.declared.class.FileTree.{FileTree}
use Rattle.mo_syntax.specs.declared.meaning.ClassId.{ClassId}
use Rattle.mo_syntax.specs.declared.place.Place.{Place}
use Rattle.mo_syntax.specs.Classes.{Home, Apart, Inside, Under}
use Rattle.mo_syntax.specs.ClassTable.{class_count, first_number}
use Rattle.mo_scope.specs.Frames.{Frame, In, Source, Top, gathered, looked_up}
use Rattle.mo_scope.specs.Rows.{Table, Row, row_at, table_of}
use Rattle.mo_scope.proofs.RowsFound.{row_numbered}
use Rattle.mo_scope.proofs.laws.Numbers.{table_numbered}
use Rattle.mo_instance.specs.Instances.{enclosing, enclosing_of, inside, instances_by, instances_of, is_placed, root_frame}
use Rattle.mo_instance.specs.steps.Roots.{path_of_home, row_if}
use Rattle.mo_instance.specs.steps.Instances.{instances_made}

-- ---- the row of the asked class

pub row_found : (table : Table) (class : ℕ) (place : Place) → Some place ≡ option_map (λ row. row.class.place) (row_at table class) →
    (row : Row) × (row_at table class ≡ Some row) × (row.class.place ≡ place)
row_found table class place is = by (row_at table class) refl is
  where
    by : (o : Option Row) → row_at table class ≡ o → Some place ≡ option_map (λ (row : Row). row.class.place) o → (row : Row) × (row_at table class ≡ Some row) × (row.class.place ≡ place)
    by None at is = absurd cc
    by (Some row) at is = let same : row.class.place ≡ place = cc in (row, at, same)

pub made_of_row : (table : Table) (class : ℕ) (row : Row) (place : Place) (frame : Frame) → row_at table class ≡ Some row → row.class.place ≡ place → frame ≡ root_frame table row →
    instances_made table place frame ≡ instances_of table class
made_of_row table class row place frame at same is =
    ap (λ (p : Place). instances_made table p frame) (sym same) ∙ ap (instances_made table row.class.place) is ∙ sym (ap (instances_by table) at)

pub none_made : (table : Table) (class : ℕ) → None ≡ option_map (λ row. row.class.place) (row_at table class) → instances_of table class ≡ Ok []
none_made table class is = by (row_at table class) refl is
  where
    by : (o : Option Row) → row_at table class ≡ o → None ≡ option_map (λ (row : Row). row.class.place) o → instances_of table class ≡ Ok []
    by None at is = ap (instances_by table) at
    by (Some row) at is = absurd cc

-- ---- rows by number

no_some : {A B : Type 0} (x : A) → Some x ≡ None → B
no_some x is = cc

pub number_of_row : (table : Table) (n : ℕ) (row : Row) → row_at table n ≡ Some row → row.number ≡ n
number_of_row [] n row at = no_some row (sym at)
number_of_row (first ∷ table) n row at = by (nat_eq first.number n) refl (number_of_row table n row) at
  where
    by : (b : Bool) → nat_eq first.number n ≡ b → (row_at table n ≡ Some row → row.number ≡ n) → cond b (Some first) (row_at table n) ≡ Some row → row.number ≡ n
    by true is behind at = let same : first ≡ row = cc in ap (λ (r : Row). r.number) (sym same) ∙ eqb-true first.number n is
    by false is behind at = behind at

abbrev IsNumbered : Table → Type 0
IsNumbered table = (k : ℕ) → row_at table (first_number + k) ≡ slice_get table k

pub rows_numbered : (files : List FileTree) → IsNumbered (table_of files)
rows_numbered files k = row_numbered (table_of files) first_number (class_count files) k (table_numbered files)

module _ (test : Row → Bool) (table : Table) (at n : ℕ) (numbered : IsNumbered table) (same : n ≡ first_number + at) where
  row_here : row_at table n ≡ slice_get table at
  row_here = ap (row_at table) same ∙ numbered at

  pub placed_is : (row : Row) (class : ClassId) (found : Option ClassId) → class.0 ≡ n → Some row ≡ row_at table n → found ≡ (if test row then Some class else None) →
      option_map (λ class. class.0) found ≡ option_map (λ row. row.number) (row_if test (slice_get table at))
  placed_is row class found number is was =
      ap (option_map (λ (c : ClassId). c.0)) was ∙ by (test row) ∙ ap (λ o. option_map (λ (r : Row). r.number) (row_if test o)) (is ∙ row_here)
    where
      by : (b : Bool) → option_map (λ (c : ClassId). c.0) (if b then Some class else None) ≡ option_map (λ (r : Row). r.number) (if b then Some row else None)
      by true = ap (λ (k : ℕ). Some k) (number ∙ sym (number_of_row table n row (sym is)))
      by false = refl

  pub absent_is : None ≡ row_at table n → None ≡ option_map (λ (r : Row). r.number) (row_if test (slice_get table at))
  absent_is is = ap (λ o. option_map (λ (r : Row). r.number) (row_if test o)) (is ∙ row_here)

pub class_below : (class : ClassId) (found : Option ClassId) (b : Bool) (m : ℕ) → class.0 < m → found ≡ (if b then Some class else None) → IfSome found (λ class. class.0 < m)
class_below class found b m below was = subst (λ (o : Option ClassId). IfSome o (λ class. class.0 < m)) (sym was) (by b)
  where
    by : (b : Bool) → IfSome (if b then Some class else None) (λ class. class.0 < m)
    by true = below
    by false = tt

-- ---- the first row that passes a test

pub number_found : (test : Row → Bool) (table : Table) (at n : ℕ) (all : Option ℕ) → Some n ≡ option_map (λ row. row.number) (row_if test (slice_get table at)) →
    option_map (λ row. row.number) (find test (drop at table)) ≡ all → Some n ≡ all
number_found test [] at n all is before = no_some n is
number_found test (row ∷ table) zero n all is before = by (test row) is before
  where
    by : (b : Bool) → Some n ≡ option_map (λ (r : Row). r.number) (if b then Some row else None) → option_map (λ (r : Row). r.number) (cond b (Some row) (find test table)) ≡ all → Some n ≡ all
    by true is before = is ∙ before
    by false is before = no_some n is
number_found test (row ∷ table) (suc at) n all is before = number_found test table at n all is before

pub number_next : (test : Row → Bool) (table : Table) (at : ℕ) (all : Option ℕ) → None ≡ option_map (λ row. row.number) (row_if test (slice_get table at)) →
    option_map (λ row. row.number) (find test (drop at table)) ≡ all → option_map (λ row. row.number) (find test (drop (at + 1) table)) ≡ all
number_next test [] zero all is before = before
number_next test [] (suc at) all is before =
    let again : suc at + 1 ≡ suc (at + 1) = omega arith in
    ap (λ (k : ℕ). option_map (λ (r : Row). r.number) (find test (drop k []))) again ∙ before
number_next test (row ∷ table) zero all is before = by (test row) is before
  where
    by : (b : Bool) → None ≡ option_map (λ (r : Row). r.number) (if b then Some row else None) → option_map (λ (r : Row). r.number) (cond b (Some row) (find test table)) ≡ all →
        option_map (λ (r : Row). r.number) (find test (drop (0 + 1) (row ∷ table))) ≡ all
    by true is before = no_some row.number (sym is)
    by false is before = before
number_next test (row ∷ table) (suc at) all is before =
    let again : suc at + 1 ≡ suc (at + 1) = omega arith in
    ap (λ (k : ℕ). option_map (λ (r : Row). r.number) (find test (drop k (row ∷ table)))) again ∙ number_next test table at all is before

-- ---- the frames around it

-- one name more, under which a class is placed or none
pub enclosed_by : (table : Table) (outer next : Frame) (before : List (List ℕ)) (name : List ℕ) (names : List (List ℕ)) (all : Frame) → next ≡ inside outer (find (is_placed before name) table) →
    enclosing table outer before (name ∷ names) ≡ all → enclosing table next (before ++ name ∷ []) names ≡ all
enclosed_by table outer next before name names all is rest = ap (λ (f : Frame). enclosing table f (before ++ name ∷ []) names) is ∙ rest

pub inside_some : (outer : Frame) (o : Option Row) (n : ℕ) → Some n ≡ option_map (λ row. row.number) o → looked_up n [] outer ≡ inside outer o
inside_some outer None n is = no_some n is
inside_some outer (Some row) n is = let same : n ≡ row.number = cc in ap (λ (k : ℕ). looked_up k [] outer) same

pub inside_none : (outer : Frame) (o : Option Row) → None ≡ option_map (λ row. row.number) o → outer ≡ inside outer o
inside_none outer None is = refl
inside_none outer (Some row) is = no_some row.number (sym is)

home_is : (table : Table) (home : Home) → enclosing table Top [] (path_of_home home) ≡ enclosing_of table home
home_is table (Under path) = refl
home_is table (Inside class) = refl
home_is table Apart = refl

abbrev pub rooted : ℕ → List Source → Frame → Frame
rooted class sources outer = In class (gathered sources) outer (Some []) Top

pub root_made : (table : Table) (class : ℕ) (row : Row) (outer : Frame) (path : List (List ℕ)) → row_at table class ≡ Some row → outer ≡ enclosing table Top [] path → path ≡ path_of_home row.home →
    rooted class [] outer ≡ root_frame table row
root_made table class row outer path at is same =
    ap (λ (n : ℕ). rooted n [] outer) (sym (number_of_row table class row at))
    ∙ ap (rooted row.number []) (is ∙ ap (enclosing table Top []) same ∙ home_is table row.home)
