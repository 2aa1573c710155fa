-- What is found among the rows of the classes.
use Rattle.std.proofs.Common.{◌≡◌, ℕ, zero, suc, ◌+◌, ◌-◌, ◌<◌, ◌≤◌, Bool, true, false, ◌&&◌, List, [], ◌∷◌, ◌++◌, length, map, flat_map, Option, Some, None, refl, ap, sym, ◌∙◌, subst, nat_eq, arith, eqb-true, eq-eqb, Bor}
use Rattle.std.proofs.lemmas.Option.{slice_get-map}
use Rattle.std.specs.Prelude.{slice_get, IfSome, IsTrue, option_map, option_copied, find, filter, if◌then◌else◌}
use Rattle.mo_syntax.specs.declared.class.Body.{Body, out-Body}
use Rattle.mo_syntax.specs.declared.class.Element.{Element, out-Element}
use Rattle.mo_syntax.specs.declared.class.FileTree.{FileTree}
use Rattle.mo_syntax.specs.declared.class.Give.{Give}
use Rattle.mo_syntax.specs.declared.class.Item.{Item, Item-F, out-Item}
use Rattle.mo_syntax.specs.declared.class.What.{What, What-F, out-What}
use Rattle.mo_syntax.specs.declared.place.Place.{Place}
use Rattle.mo_syntax.specs.Classes.{Home, Under, Inside, Apart, ClassRow, Declared, Component, Class, Declaration}
use Rattle.mo_syntax.specs.ClassTable.{declarations, placed_under, path_eq, class_count, first_number}
use Rattle.mo_scope.specs.Rows.{Table, Row, Part, Element_of, Base_of, items_in, bases_in, part_of, parts_in, placed_part, placed_in, ClassEntry, entries_of, number_by, number_among, number_at, number_of_element, row_of, row_at, table_of, class_number, declared_by, place_eq, number_of_classes, top_classes, is_top_class}
use Rattle.mo_scope.specs.Parts.{declared_in}
use Rattle.mo_scope.specs.Places.{Every, IfAny}
use Rattle.mo_scope.specs.Worlds.{PartsExist}
use Rattle.mo_scope.proofs.laws.Standing.{every_append, every_map, every_flat_map, if_list, any_find}
use Rattle.mo_scope.proofs.laws.Numbers.{numbers_from, numbers_in, table_numbered, entries_numbered}

-- ---- by number

not_below : (m n k : ℕ) → m < n → nat_eq (n + k) m ≡ false
not_below m n k below = untrue (nat_eq (n + k) m) refl
  where
    untrue : (b : Bool) → nat_eq (n + k) m ≡ b → nat_eq (n + k) m ≡ false
    untrue true is = absurd (let same : n + k ≡ m = eqb-true (n + k) m is in omega arith)
    untrue false is = is

-- no row has a number below that of the first
pub none_below : (table : Table) (n count m : ℕ) → map (λ row. row.number) table ≡ numbers_from n count → m < n → row_at table m ≡ None
none_below [] n count m is below = refl
none_below (row ∷ table) n zero m is below = absurd (cc)
none_below (row ∷ table) n (suc count) m is below =
    let here : row.number ≡ n = cc in
    let rest : map (λ row. row.number) table ≡ numbers_from (n + 1) count = cc in
    let other : nat_eq row.number m ≡ false = ap (λ k. nat_eq k m) (here ∙ omega arith) ∙ not_below m n 0 below in
    ap (λ b. if b then Some row else row_at table m) other ∙ none_below table (n + 1) count m rest (omega arith)

-- the row with so many others before it
pub row_numbered : (table : Table) (n count k : ℕ) → map (λ row. row.number) table ≡ numbers_from n count → row_at table (n + k) ≡ slice_get table k
row_numbered [] n count k is = refl
row_numbered (row ∷ table) n zero k is = absurd (cc)
row_numbered (row ∷ table) n (suc count) zero is =
    let here : row.number ≡ n = cc in
    let same : nat_eq row.number (n + zero) ≡ true = eq-eqb row.number (n + zero) (omega (arith, here)) in
    ap (λ b. if b then Some row else row_at table (n + zero)) same
row_numbered (row ∷ table) n (suc count) (suc k) is =
    let here : row.number ≡ n = cc in
    let rest : map (λ row. row.number) table ≡ numbers_from (n + 1) count = cc in
    let on : n + suc k ≡ (n + 1) + k = omega arith in
    let other : nat_eq row.number (n + suc k) ≡ false = differ row.number (n + suc k) (omega (arith, here)) in
    ap (λ b. if b then Some row else row_at table (n + suc k)) other ∙ ap (row_at table) on ∙ row_numbered table (n + 1) count k rest
  where
    differ : (a b : ℕ) → a < b → nat_eq a b ≡ false
    differ a b less = untrue (nat_eq a b) refl
      where
        untrue : (t : Bool) → nat_eq a b ≡ t → nat_eq a b ≡ false
        untrue true is = absurd (let same : a ≡ b = eqb-true a b is in omega arith)
        untrue false is = is

-- ---- numbers of classes

abbrev pub Below : ℕ → ℕ → Type 0
Below bound n = n < bound

below_all : (n count bound : ℕ) → n + count ≤ bound → Every (Below bound) (numbers_from n count)
below_all n zero bound fits = tt
below_all n (suc count) bound fits = (omega arith, below_all (n + 1) count bound (omega arith))

counted : (table : Table) (n count : ℕ) → map (λ row. row.number) table ≡ numbers_from n count → length table ≡ count
counted [] n zero is = refl
counted [] n (suc count) is = absurd (cc)
counted (row ∷ table) n zero is = absurd (cc)
counted (row ∷ table) n (suc count) is =
    let rest : map (λ row. row.number) table ≡ numbers_from (n + 1) count = cc in
    ap suc (counted table (n + 1) count rest)

pub classes_counted : (files : List FileTree) → number_of_classes (table_of files) ≡ first_number + class_count files
classes_counted files = ap (λ n. first_number + n) (counted (table_of files) first_number (class_count files) (table_numbered files))

every_unmap : {A B : Type 0} (P : B → Type 0) (f : A → B) (xs : List A) → Every P (map f xs) → Every (λ x. P (f x)) xs
every_unmap P f [] h = tt
every_unmap P f (x ∷ xs) h = (h.0, every_unmap P f xs h.1)

-- the numbers of the classes of the files are below that of the classes
pub numbers_below : (files : List FileTree) → Every (Below (number_of_classes (table_of files))) (numbers_in (declarations files))
numbers_below files =
    subst (Every (Below (number_of_classes (table_of files)))) (sym (entries_numbered files))
    (below_all first_number (class_count files) (number_of_classes (table_of files)) (omega (arith, classes_counted files)))

pub entries_below : (files : List FileTree) → Every (λ entry. entry.row.number < number_of_classes (table_of files)) (entries_of files)
entries_below files = every_unmap (Below (number_of_classes (table_of files))) (λ entry. entry.row.number) (entries_of files) (numbers_below files)

some_classes : (table : Table) → 0 < number_of_classes table
some_classes table = omega arith

either : (b : Bool) (m n bound : ℕ) → m < bound → n < bound → (if b then m else n) < bound
either true m n bound hm hn = hm
either false m n bound hm hn = hn

number_among_below : (bound : ℕ) → 0 < bound → (entries : List ClassEntry) (place : Place) → Every (λ entry. entry.row.number < bound) entries → number_among entries place < bound
number_among_below bound some [] place h = some
number_among_below bound some (entry ∷ entries) place h = either (place_eq entry.row.class.place place) entry.row.number (number_among entries place) bound h.0 (number_among_below bound some entries place h.1)

number_at_below : (bound : ℕ) → 0 < bound → (table : Table) (place : Place) → Every (λ row. row.number < bound) table → number_at table place < bound
number_at_below bound some [] place h = some
number_at_below bound some (row ∷ table) place h = either (place_eq row.class.place place) row.number (number_at table place) bound h.0 (number_at_below bound some table place h.1)

rows_below : (files : List FileTree) → Every (λ row. row.number < number_of_classes (table_of files)) (table_of files)
rows_below files = every_map (λ row. row.number < number_of_classes (table_of files)) (row_of files (number_among (entries_of files))) (entries_of files) (entries_below files)

-- The class whose name stands at a place exists.
pub number_at_exists : (files : List FileTree) (place : Place) → number_at (table_of files) place < number_of_classes (table_of files)
number_at_exists files place = number_at_below (number_of_classes (table_of files)) (some_classes (table_of files)) (table_of files) place (rows_below files)

number_by_below : (bound : ℕ) → 0 < bound → (number : Place → ℕ) → ((place : Place) → number place < bound) → (element : Element) → number_by number element < bound
number_by_below bound some number below element = by (out-What (out-Element element).what) refl
  where
    by : (what : What-F Body Give Item What Element) → out-What (out-Element element).what ≡ what → number_by number element < bound
    by (What-F.Class class) is = rw is (below class.place)
    by (What-F.Component component) is = rw is some

declared_below : (bound : ℕ) → 0 < bound → (element : Element) (number : ℕ) → number < bound → class_number (declared_by element number) < bound
declared_below bound some element number below = by (out-What (out-Element element).what) refl
  where
    by : (what : What-F Body Give Item What Element) → out-What (out-Element element).what ≡ what → class_number (declared_by element number) < bound
    by (What-F.Class class) is = rw is below
    by (What-F.Component component) is = rw is some

-- The class that an element of a modifier list declares, or one with `redeclare`, exists.
pub declared_exists : (files : List FileTree) (element : Element) → class_number (declared_in (table_of files) element) < number_of_classes (table_of files)
declared_exists files element =
    declared_below (number_of_classes (table_of files)) (some_classes (table_of files)) element (number_of_element (table_of files) element)
    (number_by_below (number_of_classes (table_of files)) (some_classes (table_of files)) (number_at (table_of files)) (number_at_exists files) element)

-- ---- the parts of classes

abbrev PartBelow : ℕ → Part → Type 0
PartBelow bound (Element_of declares) = class_number declares < bound
PartBelow bound (Base_of clause) = Unit {0}

part_of_below : (bound : ℕ) → 0 < bound → (number : Element → ℕ) → ((element : Element) → number element < bound) → (item : Item) → Every (PartBelow bound) (part_of number item)
part_of_below bound some number below item = by (out-Item item) refl
  where
    by : (i : Item-F Body Give Item What Element) → out-Item item ≡ i → Every (PartBelow bound) (part_of number item)
    by (Item-F.Import clause) is = rw is tt
    by (Item-F.Extends clause) is = rw is (tt, tt)
    by (Item-F.Member element) is =
        rw is (if_list (PartBelow bound) (out-Element element).flags.redeclare _ _ tt (declared_below bound some element (number element) (below element), tt))
    by (Item-F.Equations initial equations) is = rw is tt
    by (Item-F.Algorithm initial statements) is = rw is tt

every_if : {A : Type 0} (P : A → Type 0) → ((x : A) → P x) → (xs : List A) → Every P xs
every_if P all [] = tt
every_if P all (x ∷ xs) = (all x, every_if P all xs)

placed_under_below : (bound : ℕ) (path : List (List ℕ)) (ds : List Declaration) → Every (Below bound) (numbers_in ds) → Every (λ row. row.number < bound) (placed_under path ds)
placed_under_below bound path [] h = tt
placed_under_below bound path (d ∷ ds) h = by (placed_under_below bound path ds) d.home d.what refl refl h
  where
    by : (Every (Below bound) (numbers_in ds) → Every (λ row. row.number < bound) (placed_under path ds)) → (home : Home) (what : Declared) → d.home ≡ home → d.what ≡ what → Every (Below bound) (numbers_in (d ∷ ds)) → Every (λ row. row.number < bound) (placed_under path (d ∷ ds))
    by others (Under at) (Class row) is have hd =
        let below : Every (Below bound) (row.number ∷ numbers_in ds) = rw have at hd in
        rw (is, have) (every_append (λ row. row.number < bound) _ (placed_under path ds)
        (if_list (λ row. row.number < bound) (row.outermost && path_eq at path) _ _ (below.0, tt) tt) (others below.1))
    by others (Under at) Component is have hd = let below : Every (Below bound) (numbers_in ds) = rw have at hd in rw (is, have) (others below)
    by others (Inside n) (Class row) is have hd = let below : Every (Below bound) (row.number ∷ numbers_in ds) = rw have at hd in rw is (others below.1)
    by others (Inside n) Component is have hd = let below : Every (Below bound) (numbers_in ds) = rw have at hd in rw is (others below)
    by others Apart (Class row) is have hd = let below : Every (Below bound) (row.number ∷ numbers_in ds) = rw have at hd in rw is (others below.1)
    by others Apart Component is have hd = let below : Every (Below bound) (numbers_in ds) = rw have at hd in rw is (others below)

placed_in_below : (files : List FileTree) (home : Home) (name : List ℕ) → Every (λ row. row.number < number_of_classes (table_of files)) (placed_in files home name)
placed_in_below files (Under path) name = placed_under_below (number_of_classes (table_of files)) (path ++ name ∷ []) (declarations files) (numbers_below files)
placed_in_below files (Inside n) name = tt
placed_in_below files Apart name = tt

parts_below : (files : List FileTree) (number : Element → ℕ) → ((element : Element) → number element < number_of_classes (table_of files)) → (home : Home) (row : ClassRow) →
    Every (PartBelow (number_of_classes (table_of files))) (parts_in files number home row)
parts_below files number below home row =
    let bound : ℕ = number_of_classes (table_of files) in
    every_append (PartBelow bound) (flat_map (part_of number) (items_in (out-Body row.class.body)) ++ map Base_of (bases_in (out-Body row.class.body)))
    (map placed_part (placed_in files home row.class.name))
    (every_append (PartBelow bound) (flat_map (part_of number) (items_in (out-Body row.class.body))) (map Base_of (bases_in (out-Body row.class.body)))
    (every_flat_map (PartBelow bound) (part_of number) (items_in (out-Body row.class.body))
    (every_if (λ item. Every (PartBelow bound) (part_of number item)) (part_of_below bound (some_classes (table_of files)) number below) (items_in (out-Body row.class.body))))
    (every_map (PartBelow bound) Base_of (bases_in (out-Body row.class.body)) (every_if (λ clause. PartBelow bound (Base_of clause)) (λ clause. tt) (bases_in (out-Body row.class.body)))))
    (every_map (PartBelow bound) placed_part (placed_in files home row.class.name) (placed_in_below files home row.class.name))

every_part : (files : List FileTree) → Every (λ row. Every (PartBelow (number_of_classes (table_of files))) row.parts) (table_of files)
every_part files =
    every_map (λ row. Every (PartBelow (number_of_classes (table_of files))) row.parts) (row_of files (number_among (entries_of files))) (entries_of files)
    (every_if _ (λ entry. parts_below files (number_by (number_among (entries_of files))) (number_by_below (number_of_classes (table_of files)) (some_classes (table_of files)) (number_among (entries_of files))
    (λ place. number_among_below (number_of_classes (table_of files)) (some_classes (table_of files)) (entries_of files) place (entries_below files))) entry.home entry.row) (entries_of files))

every_at : {A : Type 0} (P : A → Type 0) (xs : List A) (k : ℕ) (x : A) → Every P xs → slice_get xs k ≡ Some x → P x
every_at P [] k x h at = absurd (cc)
every_at P (y ∷ ys) zero x h at = subst P (cc) h.0
every_at P (y ∷ ys) (suc k) x h at = every_at P ys k x h.1 at

-- Each class that a part of a class declares exists.
pub parts_exist : (files : List FileTree) (k : ℕ) (row : Row) → slice_get (table_of files) k ≡ Some row → PartsExist (number_of_classes (table_of files)) row.parts
parts_exist files k row at n declares is =
    every_at (PartBelow (number_of_classes (table_of files))) row.parts n (Element_of declares)
    (every_at (λ row. Every (PartBelow (number_of_classes (table_of files))) row.parts) (table_of files) k row (every_part files) at) is

-- and so by the number of the class
pub row_parts_exist : (files : List FileTree) (number : ℕ) (row : Row) → row_at (table_of files) number ≡ Some row → PartsExist (number_of_classes (table_of files)) row.parts
row_parts_exist files number row at k declares is =
    every_at (PartBelow (number_of_classes (table_of files))) row.parts k (Element_of declares)
    (subst (IfAny (λ row. Every (PartBelow (number_of_classes (table_of files))) row.parts)) at
    (any_find (λ row. Every (PartBelow (number_of_classes (table_of files))) row.parts) (λ row. nat_eq row.number number) (table_of files) (every_part files)))
    is

-- ---- at the top

any_filter : {A : Type 0} (P : A → Type 0) (test : A → Bool) (xs : List A) → Every P xs → Every P (filter test xs)
any_filter P test [] h = tt
any_filter P test (x ∷ xs) h = by (test x) (any_filter P test xs h.1)
  where
    by : (b : Bool) → Every P (filter test xs) → Every P (if b then x ∷ filter test xs else filter test xs)
    by true rest = (h.0, rest)
    by false rest = rest

-- the class that is found among the rows at the top exists
pub top_exists : {A : Type 0} (number : A → ℕ) (files : List FileTree) (test : Row → Bool) (r : Option A) → option_map number r ≡ option_map (λ row. row.number) (find test (top_classes (table_of files))) →
    IfSome r (λ a. number a < number_of_classes (table_of files))
top_exists {A = A} number files test r is =
    by (find test (top_classes (table_of files))) r (any_find (λ row. row.number < number_of_classes (table_of files)) test (top_classes (table_of files))
    (any_filter (λ row. row.number < number_of_classes (table_of files)) is_top_class (table_of files) (rows_below files))) is
  where
    by : (o : Option Row) (r : Option A) → IfAny (λ row. row.number < number_of_classes (table_of files)) o → option_map number r ≡ option_map (λ row. row.number) o → IfSome r (λ a. number a < number_of_classes (table_of files))
    by o None h is = tt
    by None (Some a) h is = absurd (cc)
    by (Some row) (Some a) h is = let same : number a ≡ row.number = cc in omega (arith, same, h)

-- ---- rows as they are held

pub is_first : {A : Type 0} (path : List A) (name : A → List ℕ) (b : Bool) → (IsTrue b → path ≡ []) × (path ≡ [] → IsTrue b) → path_eq (map name path) [] ≡ b
is_first [] name b is = sym (is.1 refl)
is_first (x ∷ path) name true is = absurd (let none : x ∷ path ≡ [] = is.0 refl in cc)
is_first (x ∷ path) name false is = refl

-- a class with a number below 6 has no row
pub predefined : (files : List FileTree) (number : ℕ) → number < 6 → row_at (table_of files) number ≡ None
predefined files number below = none_below (table_of files) first_number (class_count files) number (table_numbered files) below

-- another class has the row at its place
pub row_here : {A : Type 0} (seen : A → Row) (files : List FileTree) (rows : List A) (number : ℕ) → map seen rows ≡ table_of files → 6 ≤ number → slice_get (map seen rows) (number - 6) ≡ row_at (table_of files) number
row_here seen files rows number are past =
    ap (λ t. slice_get t (number - 6)) are ∙ sym (row_numbered (table_of files) 6 (class_count files) (number - 6) (table_numbered files)) ∙ ap (row_at (table_of files)) (omega arith)

pub row_held : {A : Type 0} (seen : A → Row) (files : List FileTree) (rows : List A) (r : Option (Bor A)) (number : ℕ) → map seen rows ≡ table_of files → 6 ≤ number → option_copied r ≡ slice_get rows (number - 6) →
    option_map seen (option_copied r) ≡ row_at (table_of files) number
row_held seen files rows r number are past is =
    ap (option_map seen) is ∙ sym (slice_get-map seen rows (number - 6)) ∙ row_here seen files rows number are past

pub parts_held : {A : Type 0} (seen : A → Row) (files : List FileTree) (rows : List A) (r : Option (Bor A)) (k : ℕ) → map seen rows ≡ table_of files → option_copied r ≡ slice_get rows k →
    IfSome r (λ row. PartsExist (number_of_classes (table_of files)) (seen row.now).parts)
parts_held seen files rows None k are is = tt
parts_held seen files rows (Some row) k are is =
    parts_exist files k (seen row.now) (ap (λ t. slice_get t k) (sym are) ∙ slice_get-map seen rows k ∙ ap (option_map seen) (sym is))
