-- The elements that a class declares itself, by name.
use Rattle.std.proofs.Common.{◌≡◌, ℕ, zero, suc, ◌+◌, ◌-◌, ◌<◌, ◌≤◌, Bool, true, false, cond, List, [], ◌∷◌, ◌++◌, length, map, drop, take, get_or, Option, Some, None, refl, ap, sym, subst, ◌∙◌, arith, append_assoc, drop-cons, length-append}
use Rattle.std.specs.Prelude.{slice_get, option_map, unwrap_or, if◌then◌else◌}
use Rattle.std.specs.Str.{bytes_eq}
use Rattle.std.proofs.lemmas.List.{take_more}
use Rattle.mo_syntax.specs.declared.class.FileTree.{FileTree}
use Rattle.mo_syntax.specs.ClassTable.{otherwise}
use Rattle.mo_scope.specs.declared.own_names.OwnNames.{OwnNames}
use Rattle.mo_scope.specs.declared.own_names.OwnPlace.{OwnPlace}
use Rattle.mo_scope.specs.declared.row.Part.{Part as PartAt}
use Rattle.mo_scope.specs.declared.row.Row.{Row as RowAt}
use Rattle.mo_scope.specs.Extending.{is_extending, is_extending_row}
use Rattle.mo_scope.specs.Frames.{Frame, Member, class_of}
use Rattle.mo_scope.specs.Lookup.{members_from, named, own_members}
use Rattle.mo_scope.specs.OwnNames.{AreNamed, AreOwnNames, element_read, first_at, first_own, own_place}
use Rattle.mo_scope.specs.Rows.{Table, Row, Declares, Part, Element_of, Base_of, class_number, elements_in, number_of_classes, row_at, table_of}
use Rattle.mo_scope.specs.Sights.{part_seen, row_seen}
use Rattle.mo_scope.specs.Worlds.{PartsExist}
use Rattle.mo_scope.proofs.RowsFound.{row_here, row_parts_exist}

-- ---- one part further

behind : {A : Type 0} (xs : List A) (i : ℕ) (x : A) → i < length xs → x ≡ get_or xs i x → drop i xs ≡ x ∷ drop (i + 1) xs
behind xs i x below is =
    let next : suc i ≡ i + 1 = omega arith in
    drop-cons xs i x below ∙ ap (λ y. y ∷ drop (suc i) xs) (sym is) ∙ ap (λ k. x ∷ drop k xs) next

-- what is held of a name, and what the parts that are left add
abbrev so_far : Option OwnPlace → List ℕ → ℕ → ℕ → List PartAt → Option OwnPlace
so_far held name at item parts = otherwise held (own_place name at item (map part_seen parts))

joined : (old : Option OwnPlace) (b : Bool) (place : OwnPlace) (rest : Option OwnPlace) → otherwise (otherwise old (if b then Some place else None)) rest ≡ otherwise old (if b then Some place else rest)
joined None true place rest = refl
joined None false place rest = refl
joined (Some held) b place rest = refl

-- an element that is put
pub element_added : (name : List ℕ) (at item next : ℕ) (declares : Declares) (old new : Option OwnPlace) (rest : List Part) → next ≡ item + 1 →
    new ≡ otherwise old (if bytes_eq declares.name name then Some (record { part = at; item = item }) else None) →
    otherwise new (own_place name (at + 1) next rest) ≡ otherwise old (own_place name at item (Element_of declares ∷ rest))
element_added name at item next declares old new rest more put =
    ap (λ o. otherwise o (own_place name (at + 1) next rest)) put
    ∙ ap (λ n. otherwise (otherwise old (if bytes_eq declares.name name then Some (record { part = at; item = item }) else None)) (own_place name (at + 1) n rest)) more
    ∙ joined old (bytes_eq declares.name name) (record { part = at; item = item }) (own_place name (at + 1) (item + 1) rest)

pub part_added : (parts : List PartAt) (name : List ℕ) (at item next : ℕ) (part : PartAt) (old new all : Option OwnPlace) → at < length parts → part ≡ get_or parts at part →
    ((rest : List Part) → otherwise new (own_place name (at + 1) next rest) ≡ otherwise old (own_place name at item (part_seen part ∷ rest))) →
    so_far old name at item (drop at parts) ≡ all → so_far new name (at + 1) next (drop (at + 1) parts) ≡ all
part_added parts name at item next part old new all below read step rest =
    step (map part_seen (drop (at + 1) parts)) ∙ sym (ap (so_far old name at item) (behind parts at part below read)) ∙ rest

pub all_added : (parts : List PartAt) (name : List ℕ) (at item : ℕ) (held all : Option OwnPlace) → length parts ≤ at → so_far held name at item (drop at parts) ≡ all → held ≡ all
all_added parts name at item held all past rest = sym (or_none held) ∙ ap (so_far held name at item) (sym (none_left parts at past)) ∙ rest
  where
    none_left : {A : Type 0} (xs : List A) (n : ℕ) → length xs ≤ n → drop n xs ≡ []
    none_left [] zero h = refl
    none_left [] (suc n) h = refl
    none_left (x ∷ xs) zero h = absurd (omega arith)
    none_left (x ∷ xs) (suc n) h = none_left xs n (omega arith)

    or_none : (o : Option OwnPlace) → otherwise o None ≡ o
    or_none None = refl
    or_none (Some place) = refl

-- ---- one class further

pub owns_more : (owns : List OwnNames) (rows : List RowAt) (names : OwnNames) (row : RowAt) → AreOwnNames owns rows → AreNamed names row.parts → AreOwnNames (owns ++ names ∷ []) (rows ++ row ∷ [])
owns_more [] [] names row so here = (here, tt)
owns_more [] (r ∷ rows) names row so here = absurd so
owns_more (o ∷ owns) [] names row so here = absurd so
owns_more (o ∷ owns) (r ∷ rows) names row so here = (so.0, owns_more owns rows names row so.1 here)

pub owns_taken : (rows : List RowAt) (i : ℕ) (row : RowAt) (owns new : List OwnNames) (names : OwnNames) (parts : List PartAt) → i < length rows → row ≡ get_or rows i row → AreOwnNames owns (take i rows) → parts ≡ row.parts →
    AreNamed names parts → new ≡ owns ++ names ∷ [] → AreOwnNames new (take (i + 1) rows)
owns_taken rows i row owns new names parts below read so same here pushed =
    subst (λ (os : List OwnNames). AreOwnNames os (take (i + 1) rows)) (sym pushed)
    (subst (AreOwnNames (owns ++ names ∷ [])) (ap (λ (r : RowAt). take i rows ++ r ∷ []) read ∙ sym (take_more rows i row below))
    (owns_more owns (take i rows) names row so (subst (AreNamed names) same here)))

-- the names that stand beside a row are those of its own elements
pub named_beside : (owns : List OwnNames) (rows : List RowAt) (k : ℕ) (names : OwnNames) (row : RowAt) → AreOwnNames owns rows → slice_get rows k ≡ Some row → slice_get owns k ≡ Some names → AreNamed names row.parts
named_beside [] [] k names row so at held = absurd (cc)
named_beside [] (r ∷ rows) k names row so at held = absurd so
named_beside (o ∷ owns) [] k names row so at held = absurd so
named_beside (o ∷ owns) (r ∷ rows) zero names row so at held =
    let same_row : r ≡ row = cc in
    let same_names : o ≡ names = cc in
    subst (λ n. AreNamed n row.parts) same_names (subst (λ (x : RowAt). AreNamed o x.parts) same_row so.0)
named_beside (o ∷ owns) (r ∷ rows) (suc k) names row so at held = named_beside owns rows k names row so.1 at held

pub stands_beside : (owns : List OwnNames) (rows : List RowAt) (k : ℕ) (row : RowAt) → AreOwnNames owns rows → slice_get rows k ≡ Some row → slice_get owns k ≡ None → ⊥
stands_beside [] [] k row so at held = cc
stands_beside [] (r ∷ rows) k row so at held = so
stands_beside (o ∷ owns) [] k row so at held = so
stands_beside (o ∷ owns) (r ∷ rows) zero row so at held = cc
stands_beside (o ∷ owns) (r ∷ rows) (suc k) row so at held = stands_beside owns rows k row so.1 at held

-- ---- the element at a place

at_end : (front rest : List Part) (part : Part) → slice_get (front ++ part ∷ rest) (length front) ≡ Some part
at_end [] rest part = refl
at_end (p ∷ front) rest part = at_end front rest part

one_longer : (front : List Part) (part : Part) (n : ℕ) → length front ≡ n → length (front ++ part ∷ []) ≡ n + 1
one_longer front part n is = length-append front (part ∷ []) ∙ ap (λ k. k + 1) is

pub first_read : (name : List ℕ) (front parts : List Part) (part item : ℕ) (place : OwnPlace) → length front ≡ part → own_place name part item parts ≡ Some place →
    element_read (slice_get (front ++ parts) place.part) place.item ≡ first_own name item (elements_in parts)
first_read name front [] part item place is at = absurd (cc)
first_read name front (Element_of declares ∷ parts) part item place is at =
    by (bytes_eq declares.name name) at
    (λ there. ap (λ ps. element_read (slice_get ps place.part) place.item) (sym (append_assoc front (Element_of declares ∷ []) parts))
    ∙ first_read name (front ++ Element_of declares ∷ []) parts (part + 1) (item + 1) place (one_longer front (Element_of declares) part is) there)
  where
    by : (b : Bool) → (if b then Some (record { part = part; item = item }) else own_place name (part + 1) (item + 1) parts) ≡ Some place →
        (own_place name (part + 1) (item + 1) parts ≡ Some place → element_read (slice_get (front ++ Element_of declares ∷ parts) place.part) place.item ≡ first_own name (item + 1) (elements_in parts)) →
        element_read (slice_get (front ++ Element_of declares ∷ parts) place.part) place.item ≡ (if b then Some (item, declares) else first_own name (item + 1) (elements_in parts))
    by true here further =
        let part_is : part ≡ place.part = cc in
        let item_is : item ≡ place.item = cc in
        ap (λ k. element_read (slice_get (front ++ Element_of declares ∷ parts) k) place.item) (sym (is ∙ part_is))
        ∙ ap (λ p. element_read p place.item) (at_end front parts (Element_of declares))
        ∙ ap (λ n. Some (n, declares)) (sym item_is)
    by false there further = further there
first_read name front (Base_of clause ∷ parts) part item place is at =
    ap (λ ps. element_read (slice_get ps place.part) place.item) (sym (append_assoc front (Base_of clause ∷ []) parts))
    ∙ first_read name (front ++ Base_of clause ∷ []) parts (part + 1) item place (one_longer front (Base_of clause) part is) at

pub first_nowhere : (name : List ℕ) (parts : List Part) (part item : ℕ) → own_place name part item parts ≡ None → None ≡ first_own name item (elements_in parts)
first_nowhere name [] part item at = refl
first_nowhere name (Element_of declares ∷ parts) part item at = by (bytes_eq declares.name name) at (first_nowhere name parts (part + 1) (item + 1))
  where
    by : (b : Bool) → (if b then Some (record { part = part; item = item }) else own_place name (part + 1) (item + 1) parts) ≡ None →
        (own_place name (part + 1) (item + 1) parts ≡ None → None ≡ first_own name (item + 1) (elements_in parts)) →
        None ≡ (if b then Some (item, declares) else first_own name (item + 1) (elements_in parts))
    by true here further = absurd (cc)
    by false there further = further there
first_nowhere name (Base_of clause ∷ parts) part item at = first_nowhere name parts (part + 1) item at

-- ---- the member

abbrev pub member_of : Frame → ℕ × Declares → Member
member_of frame first = record { name = first.1.name; home = frame; item = first.0; hidden = first.1.flags.hidden; declares = first.1 }

first_named : (name : List ℕ) (frame : Frame) (item : ℕ) (declared : List Declares) → option_map (member_of frame) (first_own name item declared) ≡ named name (members_from frame item declared)
first_named name frame item [] = refl
first_named name frame item (declares ∷ others) = by (bytes_eq declares.name name) (first_named name frame (item + 1) others)
  where
    by : (b : Bool) → option_map (member_of frame) (first_own name (item + 1) others) ≡ named name (members_from frame (item + 1) others) →
        option_map (member_of frame) (if b then Some (item, declares) else first_own name (item + 1) others) ≡ cond b (Some (member_of frame (item, declares))) (named name (members_from frame (item + 1) others))
    by true rest = refl
    by false rest = rest

own_of_row : (table : Table) (frame : Frame) (row : Row) → row_at table (class_of frame) ≡ Some row → own_members table frame ≡ members_from frame 0 (elements_in row.parts)
own_of_row table frame row e = rw e refl

own_of_none : (table : Table) (frame : Frame) → row_at table (class_of frame) ≡ None → own_members table frame ≡ []
own_of_none table frame e = rw e refl

-- the first of the own elements as a member
pub member_found : (table : Table) (frame : Frame) (class : ℕ) (name : List ℕ) (first : Option (ℕ × Declares)) → class ≡ class_of frame → first ≡ first_at name (row_at table class) →
    option_map (member_of frame) first ≡ named name (own_members table frame)
member_found table frame class name first same is =
    ap (option_map (member_of frame)) (is ∙ ap (λ n. first_at name (row_at table n)) same) ∙ by (row_at table (class_of frame)) refl
  where
    by : (o : Option Row) → row_at table (class_of frame) ≡ o → option_map (member_of frame) (first_at name (row_at table (class_of frame))) ≡ named name (own_members table frame)
    by None e = ap (λ o. option_map (member_of frame) (first_at name o)) e ∙ ap (named name) (sym (own_of_none table frame e))
    by (Some row) e = ap (λ o. option_map (member_of frame) (first_at name o)) e ∙ first_named name frame 0 (elements_in row.parts) ∙ ap (named name) (sym (own_of_row table frame row e))

-- by the table of all classes
pub first_held : (files : List FileTree) (rows : List RowAt) (class : ℕ) (name : List ℕ) (first : Option (ℕ × Declares)) → first ≡ first_at name (slice_get (map row_seen rows) (class - 6)) → map row_seen rows ≡ table_of files → 6 ≤ class →
    first ≡ first_at name (row_at (table_of files) class)
first_held files rows class name first is are past = is ∙ ap (first_at name) (row_here row_seen files rows class are past)

-- the class that it declares exists
first_exists : (name : List ℕ) (item classes : ℕ) (parts : List Part) (first : ℕ × Declares) → PartsExist classes parts → Some first ≡ first_own name item (elements_in parts) → class_number first.1 < classes
first_exists name item classes [] first exist is = absurd (cc)
first_exists name item classes (Element_of declares ∷ parts) first exist is = by (bytes_eq declares.name name) is (first_exists name (item + 1) classes parts first (λ k d at. exist (suc k) d at))
  where
    by : (b : Bool) → Some first ≡ (if b then Some (item, declares) else first_own name (item + 1) (elements_in parts)) →
        (Some first ≡ first_own name (item + 1) (elements_in parts) → class_number first.1 < classes) → class_number first.1 < classes
    by true here further = let same : declares ≡ first.1 = cc in subst (λ d. class_number d < classes) same (exist 0 declares refl)
    by false there further = further there
first_exists name item classes (Base_of clause ∷ parts) first exist is = first_exists name item classes parts first (λ k d at. exist (suc k) d at) is

pub class_exists : (files : List FileTree) (number : ℕ) (name : List ℕ) (first : ℕ × Declares) → Some first ≡ first_at name (row_at (table_of files) number) → class_number first.1 < number_of_classes (table_of files)
class_exists files number name first is = by (row_at (table_of files) number) refl is
  where
    by : (o : Option Row) → row_at (table_of files) number ≡ o → Some first ≡ first_at name o → class_number first.1 < number_of_classes (table_of files)
    by None e there = absurd (cc)
    by (Some row) e there = first_exists name 0 (number_of_classes (table_of files)) row.parts first (row_parts_exist files number row e) there

-- ---- extends clauses

-- what stands beside the rows tells of the row of a class
pub extending_beside : (files : List FileTree) (rows : List RowAt) (extending : List Bool) (class : ℕ) (told : Option Bool) → told ≡ slice_get extending (class - 6) → extending ≡ map (λ row. is_extending_row (row_seen row)) rows →
    map row_seen rows ≡ table_of files → 6 ≤ class → unwrap_or told false ≡ is_extending (row_at (table_of files) class)
extending_beside files rows extending class told is are same past =
    ap (λ o. unwrap_or o false) (is ∙ ap (λ xs. slice_get xs (class - 6)) are) ∙ by rows (class - 6) ∙ ap is_extending (row_here row_seen files rows class same past)
  where
    by : (xs : List RowAt) (k : ℕ) → unwrap_or (slice_get (map (λ row. is_extending_row (row_seen row)) xs) k) false ≡ is_extending (slice_get (map row_seen xs) k)
    by [] k = refl
    by (x ∷ xs) zero = refl
    by (x ∷ xs) (suc k) = by xs k
