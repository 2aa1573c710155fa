-- The sources of an element that is entered at an index are those that are entered at none, with the index behind their pending indices
-- until an `each` drops it.
use Rattle.std.proofs.Common.{◌≡◌, ℕ, ◌+◌, Bool, true, false, ◌||◌, List, [], ◌∷◌, ◌++◌, map, flat_map, Option, Some, None, if◌then◌else◌, refl, ap, sym, ◌∙◌, append-nil}
use Rattle.std.specs.List.{list_any}
use Rattle.std.specs.Str.{bytes_eq}
use Rattle.std.proofs.lemmas.List.{map-append}
use Rattle.std.proofs.lemmas.Simd.{map-map}
use Rattle.std.specs.Prelude.{option_map}
use Rattle.mo_syntax.specs.declared.expr.Expr.{Expr}
use Rattle.mo_syntax.specs.declared.class.ArgumentOf.{ArgumentOf}
use Rattle.mo_syntax.specs.declared.class.Body.{Body}
use Rattle.mo_syntax.specs.declared.class.Element.{Element}
use Rattle.mo_syntax.specs.declared.class.Give.{Give, Give-F, out-Give}
use Rattle.mo_syntax.specs.declared.class.Item.{Item}
use Rattle.mo_syntax.specs.declared.class.What.{What}
use Rattle.mo_scope.specs.Rows.{Table, Modifiers, Declares}
use Rattle.mo_scope.specs.Frames.{Given, Listed, Argued, Replacing, Source}
use Rattle.mo_scope.specs.Parts.{Saying, Modifies, Redeclares, names_left, begins_with, behind_name, pending_behind, declared_in, said_behind, said_by_argument, said_in_list, said_further, said_by_element, said_by_elements, said, said_by_all, sources_said, with_list, brought, is_nothing, parts, held, picked, picked_here, Picked, redeclared_path, redeclarations_in, first_of}
use Rattle.mo_scope.specs.Places.{Every}
use Rattle.mo_scope.proofs.laws.Standing.{every_append}
use Rattle.mo_mods.specs.Merged.{redeclared_as}
use Rattle.mo_mods.specs.Steps.{rest_of, with_index}
use Rattle.mo_mods.specs.Marks.{Marked, Marked_saying, unmarked, marked_as, marked_list, marked_sayings, marked_sources, marked_parts, marks_here, marks_along, marks_of}

-- ---- another list of pending indices

abbrev pub with_pending : Source → List ℕ → Source
with_pending source pending = record {
  piece = record {
    given = source.piece.given;
    pending = pending;
    listing = source.piece.listing;
    last = source.piece.last;
    outside = source.piece.outside;
    origin = source.piece.origin;
  };
  scope = source.scope;
}

-- a source that was entered at an index by the first of the names that are marked
abbrev pub entered : List ℕ → Marked → Source
entered index marked = with_pending marked.1 (with_index index (rest_of marked.0) marked.1.piece.pending)

abbrev pub says_pending : (List ℕ → List ℕ) → Saying → Saying
says_pending f (Modifies source) = Modifies (with_pending source (f source.piece.pending))
says_pending f (Redeclares redeclaration) = Redeclares (record {
  declares = redeclaration.declares;
  place = redeclaration.place;
  keeps = redeclaration.keeps;
  source = with_pending redeclaration.source (f redeclaration.source.piece.pending);
})

abbrev pub entered_saying : List ℕ → Marked_saying → Saying
entered_saying index marked = says_pending (with_index index (rest_of marked.0)) marked.1

-- ---- what one source says

module _ (table : Table) (name index entering : List ℕ) (source : Source) (marks : List Bool) (pending : List ℕ)
    (same : (each : Bool) → pending_behind each pending entering ≡ with_index index (rest_of (marks ++ each ∷ [])) (pending_behind each source.piece.pending [])) where
  abbrev here : Source
  here = with_pending source pending

  behind : (argument : ArgumentOf Give) (passed : ℕ) (each last : Bool) (given : Given) →
      said_behind table argument passed (behind_name here name (pending_behind each pending entering) last given)
      ≡ says_pending (with_index index (rest_of (marks ++ each ∷ []))) (said_behind table argument passed (behind_name source name (pending_behind each source.piece.pending []) last given))
  behind argument passed each last given = by (names_left argument passed) (out-Give argument.give) refl refl
    where
      by : (names : List (List ℕ)) (g : Give-F Body Give Item What Element) → names_left argument passed ≡ names → out-Give argument.give ≡ g →
          said_behind table argument passed (behind_name here name (pending_behind each pending entering) last given)
          ≡ says_pending (with_index index (rest_of (marks ++ each ∷ []))) (said_behind table argument passed (behind_name source name (pending_behind each source.piece.pending []) last given))
      by [] (Give-F.Modify mods value) is gives = rw (is, gives, same each) refl
      by [] (Give-F.Redeclare element) is gives = rw (is, gives, same each) refl
      by [] (Give-F.Replaceable element) is gives = rw (is, gives, same each) refl
      by (first ∷ names) g is gives = rw (is, same each) refl

  -- one saying or none
  if_said : (b : Bool) (marked : List Bool) (a : Saying) (s : Saying) → a ≡ entered_saying index (marked, s) →
      (if b then a ∷ [] else []) ≡ map (entered_saying index) (marked_as marked (if b then s ∷ [] else []))
  if_said true marked a s is = ap (λ x. x ∷ []) is
  if_said false marked a s is = refl

  by_argument : (argument : ArgumentOf Give) →
      said_by_argument table here name entering argument
      ≡ map (entered_saying index) (marked_as (marks ++ argument.each ∷ []) (said_by_argument table source name [] argument))
  by_argument argument = if_said (begins_with name argument.name.0) (marks ++ argument.each ∷ []) _ _ (behind argument 1 argument.each argument.last (Argued argument 1))

  in_list : (arguments : List (ArgumentOf Give)) →
      said_in_list table here name entering arguments ≡ map (entered_saying index) (marked_list table (marks, source) name arguments)
  in_list [] = refl
  in_list (argument ∷ arguments) =
      ap (λ xs. xs ++ said_in_list table here name entering arguments) (by_argument argument)
      ∙ ap (λ ys. map (entered_saying index) (marked_as (marks ++ argument.each ∷ []) (said_by_argument table source name [] argument)) ++ ys) (in_list arguments)
      ∙ sym (map-append (entered_saying index) (marked_as (marks ++ argument.each ∷ []) (said_by_argument table source name [] argument)) (marked_list table (marks, source) name arguments))

  further : (argument : ArgumentOf Give) (passed : ℕ) →
      said_further table here name entering argument passed ≡ map (entered_saying index) (marked_as (marks ++ false ∷ []) (said_further table source name [] argument passed))
  further argument passed =
      if_said (begins_with name (names_left argument passed)) (marks ++ false ∷ []) _ _ (behind argument (passed + 1) false false (Argued argument (passed + 1)))

  by_element : (declares : Declares) →
      said_by_element table here name entering declares ≡ map (entered_saying index) (marked_as (marks ++ false ∷ []) (said_by_element table source name [] declares))
  by_element declares = if_said (bytes_eq declares.name name) (marks ++ false ∷ []) _ _ (rw (same false) refl)

  by_elements : (elements : List Element) →
      said_by_elements table here name entering elements ≡ map (entered_saying index) (marked_as (marks ++ false ∷ []) (said_by_elements table source name [] elements))
  by_elements [] = refl
  by_elements (element ∷ elements) =
      let all = λ (sayings : List Saying). map (entered_saying index) (marked_as (marks ++ false ∷ []) sayings) in
      let first = said_by_element table source name [] (declared_in table element) in
      let others = said_by_elements table source name [] elements in
      ap (λ xs. xs ++ said_by_elements table here name entering elements) (by_element (declared_in table element))
      ∙ ap (λ ys. all first ++ ys) (by_elements elements)
      ∙ sym (map-append (entered_saying index) (marked_as (marks ++ false ∷ []) first) (marked_as (marks ++ false ∷ []) others))
      ∙ ap (map (entered_saying index)) (sym (map-append (λ saying. (marks ++ false ∷ [], saying)) first others))

  pub said_entered : said table name entering here ≡ map (entered_saying index) (marked_sayings table name (marks, source))
  said_entered = by source.piece.given refl
    where
      by : (given : Given) → source.piece.given ≡ given → said table name entering here ≡ map (entered_saying index) (marked_sayings table name (marks, source))
      by (Listed modifiers) is = rw is (in_list modifiers.list)
      by (Argued argument passed) is =
          rw is (ap (λ xs. xs ++ said_in_list table here name entering (held (Argued argument passed)).list) (further argument passed)
          ∙ ap (λ ys. map (entered_saying index) (marked_as (marks ++ false ∷ []) (said_further table source name [] argument passed)) ++ ys) (in_list (held (Argued argument passed)).list)
          ∙ sym (map-append (entered_saying index) (marked_as (marks ++ false ∷ []) (said_further table source name [] argument passed)) (marked_list table (marks, source) name (held (Argued argument passed)).list)))
      by (Replacing elements) is = rw is (by_elements elements)

-- ---- what all sources say

-- the names that were passed have marks
abbrev pub HasMarks : List Bool → Type 0
HasMarks [] = ⊥
HasMarks (mark ∷ marks) = Unit {0}

any_last : (marks : List Bool) (each : Bool) → list_any (λ mark. mark) (marks ++ each ∷ []) ≡ list_any (λ mark. mark) marks || each
any_last [] true = refl
any_last [] false = refl
any_last (true ∷ marks) each = refl
any_last (false ∷ marks) each = any_last marks each

-- behind the first name the index stands behind the pending indices, unless the argument has `each`
at_first : (index pending : List ℕ) (each : Bool) → pending_behind each pending index ≡ with_index index [] (pending_behind each pending [])
at_first index pending true = refl
at_first index pending false = ap (λ xs. xs ++ index) (sym (append-nil pending))

-- behind further names it stays there, until one of them has `each`
at_later : (index pending : List ℕ) (marks : List Bool) (each : Bool) →
    pending_behind each (with_index index marks pending) [] ≡ with_index index (marks ++ each ∷ []) (pending_behind each pending [])
at_later index pending marks each = rw (any_last marks each) (by (list_any (λ mark. mark) marks) each)
  where
    by : (dropped each : Bool) →
        pending_behind each (if dropped then pending else pending ++ index) []
        ≡ (if dropped || each then pending_behind each pending [] else pending_behind each pending [] ++ index)
    by true true = refl
    by true false = refl
    by false true = refl
    by false false = append-nil (pending ++ index) ∙ ap (λ xs. xs ++ index) (sym (append-nil pending))

module _ (table : Table) (name index : List ℕ) where
  all_first : (sources : List Source) →
      said_by_all table name index sources ≡ map (entered_saying index) (flat_map (marked_sayings table name) (map unmarked sources))
  all_first [] = refl
  all_first (source ∷ sources) =
      ap (λ xs. xs ++ said_by_all table name index sources) (said_entered table name index index source [] source.piece.pending (at_first index source.piece.pending))
      ∙ ap (λ ys. map (entered_saying index) (marked_sayings table name (unmarked source)) ++ ys) (all_first sources)
      ∙ sym (map-append (entered_saying index) (marked_sayings table name (unmarked source)) (flat_map (marked_sayings table name) (map unmarked sources)))

  one_later : (marked : Marked) → HasMarks marked.0 → said table name [] (entered index marked) ≡ map (entered_saying index) (marked_sayings table name marked)
  one_later ([], source) has = absurd has
  one_later (mark ∷ marks, source) has =
      said_entered table name index [] source (mark ∷ marks) (with_index index marks source.piece.pending) (at_later index source.piece.pending marks)

  all_later : (marked : List Marked) → Every (λ (one : Marked). HasMarks one.0) marked →
      said_by_all table name [] (map (entered index) marked) ≡ map (entered_saying index) (flat_map (marked_sayings table name) marked)
  all_later [] has = refl
  all_later (one ∷ others) has =
      ap (λ xs. xs ++ said_by_all table name [] (map (entered index) others)) (one_later one has.0)
      ∙ ap (λ ys. map (entered_saying index) (marked_sayings table name one) ++ ys) (all_later others has.1)
      ∙ sym (map-append (entered_saying index) (marked_sayings table name one) (flat_map (marked_sayings table name) others))

-- ---- their parts

if_listed : {A B : Type 0} (f : A → B) (b : Bool) (x : B) (y : A) → x ≡ f y → (if b then [] else x ∷ []) ≡ map f (if b then [] else y ∷ [])
if_listed f true x y is = refl
if_listed f false x y is = ap (λ z. z ∷ []) is

list_entered : (index : List ℕ) (marks : List Bool) (source : Source) (modifiers : Modifiers) →
    with_list (entered index (marks, source)) modifiers ≡ map (λ part. entered index (marks, part)) (with_list source modifiers)
list_entered index marks source modifiers = if_listed (λ part. entered index (marks, part)) (is_nothing modifiers) _ _ refl

said_sources : (index : List ℕ) (wins : Bool) (sayings : List Marked_saying) →
    sources_said wins (map (entered_saying index) sayings) ≡ map (entered index) (marked_sources wins sayings)
said_sources index wins [] = refl
said_sources index wins ((marks, Modifies source) ∷ sayings) = ap (λ xs. entered index (marks, source) ∷ xs) (said_sources index wins sayings)
said_sources index wins ((marks, Redeclares redeclaration) ∷ sayings) =
    let mods = brought wins redeclaration in
    ap (λ xs. xs ++ sources_said false (map (entered_saying index) sayings))
    (list_entered index marks redeclaration.source mods ∙ sym (map-map (entered index) (λ part. (marks, part)) (with_list redeclaration.source mods)))
    ∙ ap (λ ys. map (entered index) (map (λ part. (marks, part)) (with_list redeclaration.source mods)) ++ ys) (said_sources index false sayings)
    ∙ sym (map-append (entered index) (map (λ part. (marks, part)) (with_list redeclaration.source mods)) (marked_sources false sayings))

pub parts_first : (table : Table) (sources : List Source) (name index : List ℕ) →
    parts table sources name index ≡ map (entered index) (marked_parts table (map unmarked sources) name)
parts_first table sources name index =
    ap (sources_said true) (all_first table name index sources) ∙ said_sources index true (flat_map (marked_sayings table name) (map unmarked sources))

pub parts_later : (table : Table) (marked : List Marked) (name index : List ℕ) → Every (λ (one : Marked). HasMarks one.0) marked →
    parts table (map (entered index) marked) name [] ≡ map (entered index) (marked_parts table marked name)
parts_later table marked name index has =
    ap (sources_said true) (all_later table name index marked has) ∙ said_sources index true (flat_map (marked_sayings table name) marked)

-- ---- parts have marks

-- what holds of the marks behind one more name
module _ (Q : List Bool → Type 0) where
  as_marked : (marks : List Bool) (each : Bool) (sayings : List Saying) → Q (marks ++ each ∷ []) → Every (λ (saying : Marked_saying). Q saying.0) (marked_as (marks ++ each ∷ []) sayings)
  as_marked marks each [] holds = tt
  as_marked marks each (saying ∷ sayings) holds = (holds, as_marked marks each sayings holds)

  list_marked : (table : Table) (marked : Marked) (name : List ℕ) (arguments : List (ArgumentOf Give)) → ((each : Bool) → Q (marked.0 ++ each ∷ [])) →
      Every (λ (saying : Marked_saying). Q saying.0) (marked_list table marked name arguments)
  list_marked table marked name [] holds = tt
  list_marked table marked name (argument ∷ arguments) holds =
      every_append (λ (saying : Marked_saying). Q saying.0) (marked_as (marked.0 ++ argument.each ∷ []) (said_by_argument table marked.1 name [] argument)) (marked_list table marked name arguments)
      (as_marked marked.0 argument.each (said_by_argument table marked.1 name [] argument) (holds argument.each)) (list_marked table marked name arguments holds)

  sayings_marked : (table : Table) (name : List ℕ) (marked : Marked) → ((each : Bool) → Q (marked.0 ++ each ∷ [])) → Every (λ (saying : Marked_saying). Q saying.0) (marked_sayings table name marked)
  sayings_marked table name marked holds = by marked.1.piece.given refl
    where
      by : (given : Given) → marked.1.piece.given ≡ given → Every (λ (saying : Marked_saying). Q saying.0) (marked_sayings table name marked)
      by (Listed modifiers) is = rw is (list_marked table marked name modifiers.list holds)
      by (Argued argument passed) is =
          rw is (every_append (λ (saying : Marked_saying). Q saying.0) (marked_as (marked.0 ++ false ∷ []) (said_further table marked.1 name [] argument passed)) _
          (as_marked marked.0 false (said_further table marked.1 name [] argument passed) (holds false)) (list_marked table marked name (held (Argued argument passed)).list holds))
      by (Replacing elements) is = rw is (as_marked marked.0 false (said_by_elements table marked.1 name [] elements) (holds false))

  with_marks : (marks : List Bool) (sources : List Source) → Q marks → Every (λ (one : Marked). Q one.0) (map (λ source. (marks, source)) sources)
  with_marks marks [] holds = tt
  with_marks marks (source ∷ sources) holds = (holds, with_marks marks sources holds)

  sources_marked : (wins : Bool) (sayings : List Marked_saying) → Every (λ (saying : Marked_saying). Q saying.0) sayings → Every (λ (one : Marked). Q one.0) (marked_sources wins sayings)
  sources_marked wins [] holds = tt
  sources_marked wins ((marks, Modifies source) ∷ sayings) holds = (holds.0, sources_marked wins sayings holds.1)
  sources_marked wins ((marks, Redeclares redeclaration) ∷ sayings) holds =
      every_append (λ (one : Marked). Q one.0) (map (λ source. (marks, source)) (with_list redeclaration.source (brought wins redeclaration))) (marked_sources false sayings)
      (with_marks marks (with_list redeclaration.source (brought wins redeclaration)) holds.0) (sources_marked false sayings holds.1)

  all_sayings_marked : (table : Table) (name : List ℕ) (marked : List Marked) → Every (λ (one : Marked). (each : Bool) → Q (one.0 ++ each ∷ [])) marked →
      Every (λ (saying : Marked_saying). Q saying.0) (flat_map (marked_sayings table name) marked)
  all_sayings_marked table name [] holds = tt
  all_sayings_marked table name (one ∷ others) holds =
      every_append (λ (saying : Marked_saying). Q saying.0) (marked_sayings table name one) (flat_map (marked_sayings table name) others)
      (sayings_marked table name one holds.0) (all_sayings_marked table name others holds.1)

  all_marked : (table : Table) (marked : List Marked) (name : List ℕ) → Every (λ (one : Marked). (each : Bool) → Q (one.0 ++ each ∷ [])) marked → Every (λ (one : Marked). Q one.0) (marked_parts table marked name)
  all_marked table marked name holds = sources_marked true (flat_map (marked_sayings table name) marked) (all_sayings_marked table name marked holds)

pub parts_marked : (table : Table) (marked : List Marked) (name : List ℕ) → Every (λ (one : Marked). HasMarks one.0) (marked_parts table marked name)
parts_marked table marked name = all_marked HasMarks table marked name (all marked)
  where
    has_last : (marks : List Bool) (each : Bool) → HasMarks (marks ++ each ∷ [])
    has_last [] each = tt
    has_last (mark ∷ marks) each = tt

    all : (ones : List Marked) → Every (λ (one : Marked). (each : Bool) → HasMarks (one.0 ++ each ∷ [])) ones
    all [] = tt
    all (one ∷ ones) = (has_last one.0, all ones)

-- the first name has one mark
parts_single : (table : Table) (sources : List Source) (name : List ℕ) → Every (λ (one : Marked). rest_of one.0 ≡ []) (marked_parts table (map unmarked sources) name)
parts_single table sources name = all_marked (λ marks. rest_of marks ≡ []) table (map unmarked sources) name (all sources)
  where
    all : (ones : List Source) → Every (λ (one : Marked). (each : Bool) → rest_of (one.0 ++ each ∷ []) ≡ []) (map unmarked ones)
    all [] = tt
    all (one ∷ ones) = ((λ each. refl), all ones)

-- ---- the value for a path

-- a value behind an index, if none of the names that are left has `each`
abbrev pub entered_pick : List ℕ → Option (List Bool) → Option Picked → Option Picked
entered_pick index (Some marks) (Some picked) = Some (record { value = picked.value; scope = picked.scope; pending = with_index index (rest_of marks) picked.pending })
entered_pick index marks picked = None

again : (index : List ℕ) (marks : List Bool) (pending : List ℕ) → with_index index marks pending ≡ with_index index marks (with_index [] marks pending)
again index marks pending = by (list_any (λ mark. mark) marks)
  where
    by : (dropped : Bool) → (if dropped then pending else pending ++ index) ≡ (if dropped then (if dropped then pending else pending ++ []) else (if dropped then pending else pending ++ []) ++ index)
    by true = refl
    by false = ap (λ xs. xs ++ index) (sym (append-nil pending))

here_entered : (index : List ℕ) (marked : List Marked) →
    picked_here (map (entered index) marked) ≡ entered_pick index (marks_here marked) (picked_here (map (entered []) marked))
here_entered index [] = refl
here_entered index ((marks, source) ∷ others) = by (here_entered index others) (held source.piece.given).value refl
  where
    by : picked_here (map (entered index) others) ≡ entered_pick index (marks_here others) (picked_here (map (entered []) others)) →
        (value : Option Expr) → (held source.piece.given).value ≡ value →
        picked_here (map (entered index) ((marks, source) ∷ others))
        ≡ entered_pick index (marks_here ((marks, source) ∷ others)) (picked_here (map (entered []) ((marks, source) ∷ others)))
    by rest None is = rw is rest
    by rest (Some value) is =
        rw is (ap (λ pending. Some (record { value = value; scope = source.scope; pending = pending })) (again index (rest_of marks) source.piece.pending))

along_entered : (table : Table) (index : List ℕ) (path : List (List ℕ)) (marked : List Marked) → Every (λ (one : Marked). HasMarks one.0) marked →
    picked table (map (entered index) marked) path ≡ entered_pick index (marks_along table marked path) (picked table (map (entered []) marked) path)
along_entered table index [] marked has = here_entered index marked
along_entered table index (name ∷ names) marked has =
    ap (λ sources. picked table sources names) (parts_later table marked name index has)
    ∙ along_entered table index names (marked_parts table marked name) (parts_marked table marked name)
    ∙ ap (λ sources. entered_pick index (marks_along table (marked_parts table marked name) names) (picked table sources names)) (sym (parts_later table marked name [] has))

-- The value for a path below an element that is entered at an index is the one for the path through the element, with the index behind its
-- pending indices, if no later name of the path has `each`.
pub picked_entered : (table : Table) (sources : List Source) (name index : List ℕ) (path : List (List ℕ)) →
    picked table (parts table sources name index) path ≡ entered_pick index (marks_of table sources (name ∷ path)) (picked table sources (name ∷ path))
picked_entered table sources name index path =
    ap (λ from. picked table from path) (parts_first table sources name index)
    ∙ along_entered table index path (marked_parts table (map unmarked sources) name) (parts_marked table (map unmarked sources) name)
    ∙ ap (λ from. entered_pick index (marks_along table (marked_parts table (map unmarked sources) name) path) (picked table from path)) (sym (parts_first table sources name []))

-- ---- the redeclaration of a path

sayings_redeclare : (index : List ℕ) (sayings : List Marked_saying) →
    option_map redeclared_as (first_of (redeclarations_in (map (entered_saying index) sayings)))
    ≡ option_map redeclared_as (first_of (redeclarations_in (map (entered_saying []) sayings)))
sayings_redeclare index [] = refl
sayings_redeclare index ((marks, Modifies source) ∷ sayings) = sayings_redeclare index sayings
sayings_redeclare index ((marks, Redeclares redeclaration) ∷ sayings) = refl

redeclared_later : (table : Table) (index : List ℕ) (path : List (List ℕ)) (marked : List Marked) → Every (λ (one : Marked). HasMarks one.0) marked →
    option_map redeclared_as (redeclared_path table (map (entered index) marked) path) ≡ option_map redeclared_as (redeclared_path table (map (entered []) marked) path)
redeclared_later table index [] marked has = refl
redeclared_later table index (name ∷ []) marked has =
    ap (λ sayings. option_map redeclared_as (first_of (redeclarations_in sayings))) (all_later table name index marked has)
    ∙ sayings_redeclare index (flat_map (marked_sayings table name) marked)
    ∙ ap (λ sayings. option_map redeclared_as (first_of (redeclarations_in sayings))) (sym (all_later table name [] marked has))
redeclared_later table index (name ∷ next ∷ names) marked has =
    ap (λ sources. option_map redeclared_as (redeclared_path table sources (next ∷ names))) (parts_later table marked name index has)
    ∙ redeclared_later table index (next ∷ names) (marked_parts table marked name) (parts_marked table marked name)
    ∙ ap (λ sources. option_map redeclared_as (redeclared_path table sources (next ∷ names))) (sym (parts_later table marked name [] has))

-- What redeclares a path below an element that is entered is what redeclares the path through it.
pub redeclared_entered : (table : Table) (sources : List Source) (name index next : List ℕ) (path : List (List ℕ)) →
    option_map redeclared_as (redeclared_path table (parts table sources name index) (next ∷ path))
    ≡ option_map redeclared_as (redeclared_path table sources (name ∷ next ∷ path))
redeclared_entered table sources name index next path =
    ap (λ from. option_map redeclared_as (redeclared_path table from (next ∷ path))) (parts_first table sources name index)
    ∙ redeclared_later table index (next ∷ path) (marked_parts table (map unmarked sources) name) (parts_marked table (map unmarked sources) name)
    ∙ ap (λ from. option_map redeclared_as (redeclared_path table from (next ∷ path))) (sym (parts_first table sources name []))

-- ---- the marks of a path

-- a source that was entered at an index, without the mark of the first name
abbrev pub dropped : List ℕ → Marked → Marked
dropped index marked = (rest_of marked.0, entered index marked)

abbrev pub dropped_saying : List ℕ → Marked_saying → Marked_saying
dropped_saying index marked = (rest_of marked.0, entered_saying index marked)

module _ (table : Table) (name index : List ℕ) (mark : Bool) (marks : List Bool) (source : Source) where
  abbrev at_index : Source
  at_index = entered index (mark ∷ marks, source)

  as_dropped : (behind : List Bool) (sayings : List Saying) →
      marked_as behind (map (entered_saying index) (marked_as (mark ∷ behind) sayings)) ≡ map (dropped_saying index) (marked_as (mark ∷ behind) sayings)
  as_dropped behind [] = refl
  as_dropped behind (saying ∷ sayings) = ap (λ xs. (behind, entered_saying index (mark ∷ behind, saying)) ∷ xs) (as_dropped behind sayings)

  list_dropped : (arguments : List (ArgumentOf Give)) →
      marked_list table (marks, at_index) name arguments ≡ map (dropped_saying index) (marked_list table (mark ∷ marks, source) name arguments)
  list_dropped [] = refl
  list_dropped (argument ∷ arguments) =
      let before = said_by_argument table source name [] argument in
      ap (λ xs. marked_as (marks ++ argument.each ∷ []) xs ++ marked_list table (marks, at_index) name arguments)
      (by_argument table name index [] source (mark ∷ marks) (with_index index marks source.piece.pending) (at_later index source.piece.pending marks) argument)
      ∙ ap (λ xs. xs ++ marked_list table (marks, at_index) name arguments) (as_dropped (marks ++ argument.each ∷ []) before)
      ∙ ap (λ ys. map (dropped_saying index) (marked_as (mark ∷ marks ++ argument.each ∷ []) before) ++ ys) (list_dropped arguments)
      ∙ sym (map-append (dropped_saying index) (marked_as (mark ∷ marks ++ argument.each ∷ []) before) (marked_list table (mark ∷ marks, source) name arguments))

  sayings_dropped : marked_sayings table name (marks, at_index) ≡ map (dropped_saying index) (marked_sayings table name (mark ∷ marks, source))
  sayings_dropped = by source.piece.given refl
    where
      by : (given : Given) → source.piece.given ≡ given → marked_sayings table name (marks, at_index) ≡ map (dropped_saying index) (marked_sayings table name (mark ∷ marks, source))
      by (Listed modifiers) is = rw is (list_dropped modifiers.list)
      by (Argued argument passed) is =
          let before = said_further table source name [] argument passed in
          rw is (ap (λ xs. marked_as (marks ++ false ∷ []) xs ++ marked_list table (marks, at_index) name (held (Argued argument passed)).list)
          (further table name index [] source (mark ∷ marks) (with_index index marks source.piece.pending) (at_later index source.piece.pending marks) argument passed)
          ∙ ap (λ xs. xs ++ marked_list table (marks, at_index) name (held (Argued argument passed)).list) (as_dropped (marks ++ false ∷ []) before)
          ∙ ap (λ ys. map (dropped_saying index) (marked_as (mark ∷ marks ++ false ∷ []) before) ++ ys) (list_dropped (held (Argued argument passed)).list)
          ∙ sym (map-append (dropped_saying index) (marked_as (mark ∷ marks ++ false ∷ []) before) (marked_list table (mark ∷ marks, source) name (held (Argued argument passed)).list)))
      by (Replacing elements) is =
          rw is (ap (marked_as (marks ++ false ∷ []))
          (by_elements table name index [] source (mark ∷ marks) (with_index index marks source.piece.pending) (at_later index source.piece.pending marks) elements)
          ∙ as_dropped (marks ++ false ∷ []) (said_by_elements table source name [] elements))

all_dropped : (table : Table) (name index : List ℕ) (marked : List Marked) → Every (λ (one : Marked). HasMarks one.0) marked →
    flat_map (marked_sayings table name) (map (dropped index) marked) ≡ map (dropped_saying index) (flat_map (marked_sayings table name) marked)
all_dropped table name index [] has = refl
all_dropped table name index (([], source) ∷ others) has = absurd has.0
all_dropped table name index ((mark ∷ marks, source) ∷ others) has =
    ap (λ xs. xs ++ flat_map (marked_sayings table name) (map (dropped index) others)) (sayings_dropped table name index mark marks source)
    ∙ ap (λ ys. map (dropped_saying index) (marked_sayings table name (mark ∷ marks, source)) ++ ys) (all_dropped table name index others has.1)
    ∙ sym (map-append (dropped_saying index) (marked_sayings table name (mark ∷ marks, source)) (flat_map (marked_sayings table name) others))

sources_dropped : (index : List ℕ) (wins : Bool) (sayings : List Marked_saying) →
    marked_sources wins (map (dropped_saying index) sayings) ≡ map (dropped index) (marked_sources wins sayings)
sources_dropped index wins [] = refl
sources_dropped index wins ((marks, Modifies source) ∷ sayings) = ap (λ xs. dropped index (marks, source) ∷ xs) (sources_dropped index wins sayings)
sources_dropped index wins ((marks, Redeclares redeclaration) ∷ sayings) =
    let listed = with_list redeclaration.source (brought wins redeclaration) in
    ap (λ xs. map (λ part. (rest_of marks, part)) xs ++ marked_sources false (map (dropped_saying index) sayings))
    (list_entered index marks redeclaration.source (brought wins redeclaration))
    ∙ ap (λ xs. xs ++ marked_sources false (map (dropped_saying index) sayings))
    (map-map (λ part. (rest_of marks, part)) (λ part. entered index (marks, part)) listed ∙ sym (map-map (dropped index) (λ part. (marks, part)) listed))
    ∙ ap (λ ys. map (dropped index) (map (λ part. (marks, part)) listed) ++ ys) (sources_dropped index false sayings)
    ∙ sym (map-append (dropped index) (map (λ part. (marks, part)) listed) (marked_sources false sayings))

parts_dropped : (table : Table) (name index : List ℕ) (marked : List Marked) → Every (λ (one : Marked). HasMarks one.0) marked →
    marked_parts table (map (dropped index) marked) name ≡ map (dropped index) (marked_parts table marked name)
parts_dropped table name index marked has =
    ap (marked_sources true) (all_dropped table name index marked has) ∙ sources_dropped index true (flat_map (marked_sayings table name) marked)

here_dropped : (index : List ℕ) (marked : List Marked) → marks_here (map (dropped index) marked) ≡ option_map rest_of (marks_here marked)
here_dropped index [] = refl
here_dropped index ((marks, source) ∷ others) = by (here_dropped index others) (held source.piece.given).value refl
  where
    by : marks_here (map (dropped index) others) ≡ option_map rest_of (marks_here others) → (value : Option Expr) → (held source.piece.given).value ≡ value →
        marks_here (map (dropped index) ((marks, source) ∷ others)) ≡ option_map rest_of (marks_here ((marks, source) ∷ others))
    by rest None is = rw is rest
    by rest (Some value) is = rw is refl

along_dropped : (table : Table) (index : List ℕ) (path : List (List ℕ)) (marked : List Marked) → Every (λ (one : Marked). HasMarks one.0) marked →
    marks_along table (map (dropped index) marked) path ≡ option_map rest_of (marks_along table marked path)
along_dropped table index [] marked has = here_dropped index marked
along_dropped table index (name ∷ names) marked has =
    ap (λ ones. marks_along table ones names) (parts_dropped table name index marked has)
    ∙ along_dropped table index names (marked_parts table marked name) (parts_marked table marked name)

unmarked_dropped : (index : List ℕ) (marked : List Marked) → Every (λ (one : Marked). rest_of one.0 ≡ []) marked → map unmarked (map (entered index) marked) ≡ map (dropped index) marked
unmarked_dropped index [] single = refl
unmarked_dropped index (one ∷ others) single =
    ap (λ marks. (marks, entered index one) ∷ map unmarked (map (entered index) others)) (sym single.0)
    ∙ ap (λ ys. dropped index one ∷ ys) (unmarked_dropped index others single.1)

-- The marks of a path below an element that is entered are those of the path through it, but for the first.
pub marks_entered : (table : Table) (sources : List Source) (name index : List ℕ) (path : List (List ℕ)) →
    marks_of table (parts table sources name index) path ≡ option_map rest_of (marks_of table sources (name ∷ path))
marks_entered table sources name index path =
    ap (λ from. marks_along table (map unmarked from) path) (parts_first table sources name index)
    ∙ ap (λ marked. marks_along table marked path) (unmarked_dropped index (marked_parts table (map unmarked sources) name) (parts_single table sources name))
    ∙ along_dropped table index path (marked_parts table (map unmarked sources) name) (parts_marked table (map unmarked sources) name)
