-- What is left of sources gives the values, the marks and the redeclarations that the sources give.
use Rattle.std.proofs.Common.{◌≡◌, ℕ, ◌+◌, Bool, true, false, List, [], ◌∷◌, ◌++◌, map, flat_map, Option, Some, None, if◌then◌else◌, refl, ap, sym, ◌∙◌, append-nil}
use Rattle.std.specs.Prelude.{option_map}
use Rattle.std.specs.Str.{bytes_eq}
use Rattle.std.proofs.lemmas.List.{map-append}
use Rattle.mo_syntax.specs.declared.expr.Expr.{Expr}
use Rattle.mo_syntax.specs.declared.class.ArgumentOf.{ArgumentOf}
use Rattle.mo_syntax.specs.declared.class.Body.{Body}
use Rattle.mo_syntax.specs.declared.class.Element.{Element}
use Rattle.mo_syntax.specs.declared.class.Give.{Give, Give-F, out-Give}
use Rattle.mo_syntax.specs.declared.class.Item.{Item}
use Rattle.mo_syntax.specs.declared.class.What.{What}
use Rattle.mo_scope.specs.Rows.{Table, Declares}
use Rattle.mo_scope.specs.Frames.{Given, Listed, Argued, Replacing, Source}
use Rattle.mo_scope.specs.Parts.{Saying, Modifies, Redeclares, names_left, begins_with, behind_name, pending_behind, declared_in, said_behind, said_by_argument, said_in_list, said_further, said_by_element, said_by_elements, said, said_by_all, sources_said, with_list, brought, is_nothing, parts, held, picked, picked_here, redeclared_path, redeclarations_in, first_of}
use Rattle.mo_mods.specs.Left.{Left, Said, Goes_on, Anew, left_behind, said_by, argument_says, list_says, rest_says, element_says, elements_say, left_says, all_say, left_with, lefts_said, lefts_behind, value_left, value_along, anew_first, anew_along, IsMergedOf, left_of}
use Rattle.mo_mods.specs.Marks.{Marked, Marked_saying, unmarked, marked_as, marked_list, marked_sayings, marked_sources, marked_parts, marks_here, marks_along}
use Rattle.mo_mods.specs.Merged.{Merged, Merged_value, StandsFor, redeclared_as, at_path, redeclared_here}

-- ---- the sources that are marked

abbrev plain : Marked → Source
plain marked = marked.1

abbrev plain_saying : Marked_saying → Saying
plain_saying marked = marked.1

plain_marked : (marks : List Bool) (sayings : List Saying) → map plain_saying (marked_as marks sayings) ≡ sayings
plain_marked marks [] = refl
plain_marked marks (saying ∷ sayings) = ap (λ xs. saying ∷ xs) (plain_marked marks sayings)

module _ (table : Table) (name : List ℕ) (marked : Marked) where
  list_plain : (arguments : List (ArgumentOf Give)) → map plain_saying (marked_list table marked name arguments) ≡ said_in_list table marked.1 name [] arguments
  list_plain [] = refl
  list_plain (argument ∷ arguments) =
      map-append plain_saying (marked_as (marked.0 ++ argument.each ∷ []) (said_by_argument table marked.1 name [] argument)) (marked_list table marked name arguments)
      ∙ ap (λ xs. xs ++ map plain_saying (marked_list table marked name arguments)) (plain_marked (marked.0 ++ argument.each ∷ []) (said_by_argument table marked.1 name [] argument))
      ∙ ap (λ xs. said_by_argument table marked.1 name [] argument ++ xs) (list_plain arguments)

  sayings_plain : map plain_saying (marked_sayings table name marked) ≡ said table name [] marked.1
  sayings_plain = by marked.1.piece.given refl
    where
      by : (given : Given) → marked.1.piece.given ≡ given → map plain_saying (marked_sayings table name marked) ≡ said table name [] marked.1
      by (Listed modifiers) is = rw is (list_plain modifiers.list)
      by (Argued argument passed) is =
          rw is (map-append plain_saying (marked_as (marked.0 ++ false ∷ []) (said_further table marked.1 name [] argument passed)) (marked_list table marked name (held (Argued argument passed)).list)
          ∙ ap (λ xs. xs ++ map plain_saying (marked_list table marked name (held (Argued argument passed)).list)) (plain_marked (marked.0 ++ false ∷ []) (said_further table marked.1 name [] argument passed))
          ∙ ap (λ xs. said_further table marked.1 name [] argument passed ++ xs) (list_plain (held (Argued argument passed)).list))
      by (Replacing elements) is = rw is (plain_marked (marked.0 ++ false ∷ []) (said_by_elements table marked.1 name [] elements))

all_plain : (table : Table) (name : List ℕ) (marked : List Marked) →
    map plain_saying (flat_map (marked_sayings table name) marked) ≡ said_by_all table name [] (map plain marked)
all_plain table name [] = refl
all_plain table name (one ∷ others) =
    map-append plain_saying (marked_sayings table name one) (flat_map (marked_sayings table name) others)
    ∙ ap (λ xs. xs ++ map plain_saying (flat_map (marked_sayings table name) others)) (sayings_plain table name one)
    ∙ ap (λ xs. said table name [] one.1 ++ xs) (all_plain table name others)

plain_sources : (marks : List Bool) (sources : List Source) → map plain (map (λ source. (marks, source)) sources) ≡ sources
plain_sources marks [] = refl
plain_sources marks (source ∷ sources) = ap (λ xs. source ∷ xs) (plain_sources marks sources)

sources_plain : (wins : Bool) (sayings : List Marked_saying) → map plain (marked_sources wins sayings) ≡ sources_said wins (map plain_saying sayings)
sources_plain wins [] = refl
sources_plain wins ((marks, Modifies source) ∷ sayings) = ap (λ xs. source ∷ xs) (sources_plain wins sayings)
sources_plain wins ((marks, Redeclares redeclaration) ∷ sayings) =
    map-append plain (map (λ source. (marks, source)) (with_list redeclaration.source (brought wins redeclaration))) (marked_sources false sayings)
    ∙ ap (λ xs. xs ++ map plain (marked_sources false sayings)) (plain_sources marks (with_list redeclaration.source (brought wins redeclaration)))
    ∙ ap (λ xs. with_list redeclaration.source (brought wins redeclaration) ++ xs) (sources_plain false sayings)

pub parts_plain : (table : Table) (marked : List Marked) (name : List ℕ) → map plain (marked_parts table marked name) ≡ parts table (map plain marked) name []
parts_plain table marked name = sources_plain true (flat_map (marked_sayings table name) marked) ∙ ap (sources_said true) (all_plain table name marked)

-- ---- what is left of the sources that are marked

abbrev said_of : Marked_saying → Said
said_of (marks, Modifies source) = Goes_on (left_of (marks, source))
said_of (marks, Redeclares redeclaration) = Anew redeclaration.declares (left_of (marks, redeclaration.source))

if_said : (b : Bool) (marks : List Bool) (s : Saying) (a : Said) → said_of (marks, s) ≡ a → map said_of (marked_as marks (if b then s ∷ [] else [])) ≡ (if b then a ∷ [] else [])
if_said true marks s a is = ap (λ x. x ∷ []) is
if_said false marks s a is = refl

pending_left : (each : Bool) (pending : List ℕ) → pending_behind each pending [] ≡ (if each then [] else pending)
pending_left true pending = refl
pending_left false pending = append-nil pending

module _ (table : Table) (name : List ℕ) (marked : Marked) where
  abbrev left : Left
  left = left_of marked

  behind : (argument : ArgumentOf Give) (passed : ℕ) (each last : Bool) (given : Given) →
      said_of (marked.0 ++ each ∷ [], said_behind table argument passed (behind_name marked.1 name (pending_behind each marked.1.piece.pending []) last given))
      ≡ said_by table argument passed (left_behind left each given)
  behind argument passed each last given = by (names_left argument passed) (out-Give argument.give) refl refl
    where
      by : (names : List (List ℕ)) (g : Give-F Body Give Item What Element) → names_left argument passed ≡ names → out-Give argument.give ≡ g →
          said_of (marked.0 ++ each ∷ [], said_behind table argument passed (behind_name marked.1 name (pending_behind each marked.1.piece.pending []) last given))
          ≡ said_by table argument passed (left_behind left each given)
      by [] (Give-F.Modify mods value) is gives = rw (is, gives, pending_left each marked.1.piece.pending) refl
      by [] (Give-F.Redeclare element) is gives = rw (is, gives, pending_left each marked.1.piece.pending) refl
      by [] (Give-F.Replaceable element) is gives = rw (is, gives, pending_left each marked.1.piece.pending) refl
      by (first ∷ names) g is gives = rw (is, pending_left each marked.1.piece.pending) refl

  argument_left : (argument : ArgumentOf Give) →
      map said_of (marked_as (marked.0 ++ argument.each ∷ []) (said_by_argument table marked.1 name [] argument)) ≡ argument_says table name left argument
  argument_left argument = if_said (begins_with name argument.name.0) (marked.0 ++ argument.each ∷ []) _ _ (behind argument 1 argument.each argument.last (Argued argument 1))

  list_left : (arguments : List (ArgumentOf Give)) → map said_of (marked_list table marked name arguments) ≡ list_says table name left arguments
  list_left [] = refl
  list_left (argument ∷ arguments) =
      map-append said_of (marked_as (marked.0 ++ argument.each ∷ []) (said_by_argument table marked.1 name [] argument)) (marked_list table marked name arguments)
      ∙ ap (λ xs. xs ++ map said_of (marked_list table marked name arguments)) (argument_left argument)
      ∙ ap (λ xs. argument_says table name left argument ++ xs) (list_left arguments)

  rest_left : (argument : ArgumentOf Give) (passed : ℕ) →
      map said_of (marked_as (marked.0 ++ false ∷ []) (said_further table marked.1 name [] argument passed)) ≡ rest_says table name left argument passed
  rest_left argument passed = if_said (begins_with name (names_left argument passed)) (marked.0 ++ false ∷ []) _ _ (behind argument (passed + 1) false false (Argued argument (passed + 1)))

  element_left : (declares : Declares) →
      map said_of (marked_as (marked.0 ++ false ∷ []) (said_by_element table marked.1 name [] declares)) ≡ element_says name left declares
  element_left declares = if_said (bytes_eq declares.name name) (marked.0 ++ false ∷ []) _ _ (rw (append-nil marked.1.piece.pending) refl)

  elements_left : (elements : List Element) →
      map said_of (marked_as (marked.0 ++ false ∷ []) (said_by_elements table marked.1 name [] elements)) ≡ elements_say table name left elements
  elements_left [] = refl
  elements_left (element ∷ elements) =
      let first = said_by_element table marked.1 name [] (declared_in table element) in
      let others = said_by_elements table marked.1 name [] elements in
      ap (map said_of) (map-append (λ saying. (marked.0 ++ false ∷ [], saying)) first others)
      ∙ map-append said_of (marked_as (marked.0 ++ false ∷ []) first) (marked_as (marked.0 ++ false ∷ []) others)
      ∙ ap (λ xs. xs ++ map said_of (marked_as (marked.0 ++ false ∷ []) others)) (element_left (declared_in table element))
      ∙ ap (λ xs. element_says name left (declared_in table element) ++ xs) (elements_left elements)

  sayings_left : map said_of (marked_sayings table name marked) ≡ left_says table name left
  sayings_left = by marked.1.piece.given refl
    where
      by : (given : Given) → marked.1.piece.given ≡ given → map said_of (marked_sayings table name marked) ≡ left_says table name left
      by (Listed modifiers) is = rw is (list_left modifiers.list)
      by (Argued argument passed) is =
          rw is (map-append said_of (marked_as (marked.0 ++ false ∷ []) (said_further table marked.1 name [] argument passed)) (marked_list table marked name (held (Argued argument passed)).list)
          ∙ ap (λ xs. xs ++ map said_of (marked_list table marked name (held (Argued argument passed)).list)) (rest_left argument passed)
          ∙ ap (λ xs. rest_says table name left argument passed ++ xs) (list_left (held (Argued argument passed)).list))
      by (Replacing elements) is = rw is (elements_left elements)

pub all_left : (table : Table) (name : List ℕ) (marked : List Marked) → map said_of (flat_map (marked_sayings table name) marked) ≡ all_say table name (map left_of marked)
all_left table name [] = refl
all_left table name (one ∷ others) =
    map-append said_of (marked_sayings table name one) (flat_map (marked_sayings table name) others)
    ∙ ap (λ xs. xs ++ map said_of (flat_map (marked_sayings table name) others)) (sayings_left table name one)
    ∙ ap (λ xs. left_says table name (left_of one) ++ xs) (all_left table name others)

if_left : (b : Bool) (marks : List Bool) (source : Source) (all : Left) → left_of (marks, source) ≡ all →
    map left_of (map (λ one. (marks, one)) (if b then [] else source ∷ [])) ≡ (if b then [] else all ∷ [])
if_left true marks source all is = refl
if_left false marks source all is = ap (λ x. x ∷ []) is

sources_left : (wins : Bool) (sayings : List Marked_saying) → map left_of (marked_sources wins sayings) ≡ lefts_said wins (map said_of sayings)
sources_left wins [] = refl
sources_left wins ((marks, Modifies source) ∷ sayings) = ap (λ xs. left_of (marks, source) ∷ xs) (sources_left wins sayings)
sources_left wins ((marks, Redeclares redeclaration) ∷ sayings) =
    map-append left_of (map (λ source. (marks, source)) (with_list redeclaration.source (brought wins redeclaration))) (marked_sources false sayings)
    ∙ ap (λ xs. xs ++ map left_of (marked_sources false sayings)) (if_left (is_nothing (brought wins redeclaration)) marks _ _ refl)
    ∙ ap (λ xs. left_with (left_of (marks, redeclaration.source)) (brought wins redeclaration) ++ xs) (sources_left false sayings)

pub parts_left : (table : Table) (marked : List Marked) (name : List ℕ) → map left_of (marked_parts table marked name) ≡ lefts_behind table (map left_of marked) name
parts_left table marked name = sources_left true (flat_map (marked_sayings table name) marked) ∙ ap (lefts_said true) (all_left table name marked)

-- ---- values

here_picked : (marked : List Marked) → option_map (λ value. value.picked) (value_left (map left_of marked)) ≡ picked_here (map plain marked)
here_picked [] = refl
here_picked (one ∷ others) = by (here_picked others) (held one.1.piece.given).value refl
  where
    by : option_map (λ value. value.picked) (value_left (map left_of others)) ≡ picked_here (map plain others) → (value : Option Expr) → (held one.1.piece.given).value ≡ value →
        option_map (λ value. value.picked) (value_left (map left_of (one ∷ others))) ≡ picked_here (map plain (one ∷ others))
    by rest None is = rw is rest
    by rest (Some value) is = rw is refl

here_marked : (marked : List Marked) → option_map (λ value. value.each) (value_left (map left_of marked)) ≡ marks_here marked
here_marked [] = refl
here_marked (one ∷ others) = by (here_marked others) (held one.1.piece.given).value refl
  where
    by : option_map (λ value. value.each) (value_left (map left_of others)) ≡ marks_here others → (value : Option Expr) → (held one.1.piece.given).value ≡ value →
        option_map (λ value. value.each) (value_left (map left_of (one ∷ others))) ≡ marks_here (one ∷ others)
    by rest None is = rw is rest
    by rest (Some value) is = rw is refl

along_picked : (table : Table) (path : List (List ℕ)) (marked : List Marked) →
    option_map (λ value. value.picked) (value_along table (map left_of marked) path) ≡ picked table (map plain marked) path
along_picked table [] marked = here_picked marked
along_picked table (name ∷ names) marked =
    ap (λ lefts. option_map (λ (value : Merged_value). value.picked) (value_along table lefts names)) (sym (parts_left table marked name))
    ∙ along_picked table names (marked_parts table marked name)
    ∙ ap (λ sources. picked table sources names) (parts_plain table marked name)

along_marked : (table : Table) (path : List (List ℕ)) (marked : List Marked) →
    option_map (λ value. value.each) (value_along table (map left_of marked) path) ≡ marks_along table marked path
along_marked table [] marked = here_marked marked
along_marked table (name ∷ names) marked =
    ap (λ lefts. option_map (λ (value : Merged_value). value.each) (value_along table lefts names)) (sym (parts_left table marked name))
    ∙ along_marked table names (marked_parts table marked name)

-- ---- redeclarations

first_anew : (sayings : List Marked_saying) → anew_first (map said_of sayings) ≡ option_map redeclared_as (first_of (redeclarations_in (map plain_saying sayings)))
first_anew [] = refl
first_anew ((marks, Modifies source) ∷ sayings) = first_anew sayings
first_anew ((marks, Redeclares redeclaration) ∷ sayings) = refl

along_anew : (table : Table) (name : List ℕ) (path : List (List ℕ)) (marked : List Marked) →
    anew_along table (map left_of marked) name path ≡ option_map redeclared_as (redeclared_path table (map plain marked) (name ∷ path))
along_anew table name [] marked =
    ap anew_first (sym (all_left table name marked))
    ∙ first_anew (flat_map (marked_sayings table name) marked)
    ∙ ap (λ sayings. option_map redeclared_as (first_of (redeclarations_in sayings))) (all_plain table name marked)
along_anew table name (next ∷ names) marked =
    ap (λ lefts. anew_along table lefts next names) (sym (parts_left table marked name))
    ∙ along_anew table next names (marked_parts table marked name)
    ∙ ap (λ sources. option_map redeclared_as (redeclared_path table sources (next ∷ names))) (parts_plain table marked name)

-- ---- sources

plain_unmarked : (sources : List Source) → map plain (map unmarked sources) ≡ sources
plain_unmarked [] = refl
plain_unmarked (source ∷ sources) = ap (λ xs. source ∷ xs) (plain_unmarked sources)

-- A table that is merged of what is left of sources stands for them, if it declares nothing anew itself.
pub stands_for : (table : Table) (merged : Merged) (sources : List Source) → IsMergedOf table merged (map left_of (map unmarked sources)) → redeclared_here merged ≡ None →
    StandsFor table merged sources
stands_for table merged sources is none = record {
  values = λ path.
      ap (option_map (λ (value : Merged_value). value.picked)) (is.values path) ∙ along_picked table path (map unmarked sources)
      ∙ ap (λ from. picked table from path) (plain_unmarked sources);
  each = λ path. ap (option_map (λ (value : Merged_value). value.each)) (is.values path) ∙ along_marked table path (map unmarked sources);
  redeclarations = by;
}
  where
    by : (path : List (List ℕ)) → redeclared_here (at_path merged path) ≡ option_map redeclared_as (redeclared_path table sources path)
    by [] = none
    by (name ∷ path) =
        is.redeclarations name path ∙ along_anew table name path (map unmarked sources)
        ∙ ap (λ from. option_map redeclared_as (redeclared_path table from (name ∷ path))) (plain_unmarked sources)
