-- What sources say of the elements of a frame (Modelica Language Specification 3.5, sections 7.2 and 7.3): their parts for a name, the
-- redeclarations among them, the value that they give for a path, and the sources of an element and of a base.
use Rattle.std.specs.Prelude.{ℕ, ◌+◌, Bool, true, false, ◌||◌, List, [], ◌∷◌, ◌++◌, map, flat_map, drop, Option, Some, None, if◌then◌else◌}
use Rattle.std.specs.Str.{bytes_eq}
use Rattle.mo_syntax.specs.declared.expr.Expr.{Expr, out-Expr}
use Rattle.mo_syntax.specs.declared.class.ArgumentOf.{ArgumentOf}
use Rattle.mo_syntax.specs.declared.class.Body.{Body}
use Rattle.mo_syntax.specs.declared.class.Element.{Element, out-Element}
use Rattle.mo_syntax.specs.declared.class.Give.{Give, Give-F, out-Give}
use Rattle.mo_syntax.specs.declared.class.Item.{Item}
use Rattle.mo_syntax.specs.declared.class.What.{What}
use Rattle.mo_syntax.specs.declared.place.Place.{Place}
use Rattle.mo_scope.specs.Rows.{Table, Row, number_of_element, Modifiers, no_modifiers, Constraint, Declares, declared_by, Clause, is_class, is_short_redeclaration}
use Rattle.mo_scope.specs.Frames.{Given, Listed, Argued, Replacing, Origin, Elsewhere, Own_of, Constraint_of, Frame, Scope, Source, Member, sources_of}

-- ---- arguments

-- the names of an argument that are left
abbrev pub names_left : ArgumentOf Give → ℕ → List (List ℕ)
names_left argument passed = drop passed argument.name.0

abbrev pub begins_with : List ℕ → List (List ℕ) → Bool
begins_with name [] = false
begins_with name (first ∷ others) = bytes_eq first name

-- the modifiers and the value of an argument all of whose names were passed
abbrev pub nested : Give → Modifiers
nested give = nested_in (out-Give give)
  where
    nested_in : Give-F Body Give Item What Element → Modifiers
    nested_in (Give-F.Modify mods value) = record { list = mods.0; value = value }
    nested_in other = no_modifiers

-- the place of a list: that of its first argument, else that of its value
abbrev pub place_of_list : Modifiers → Place
place_of_list modifiers = place_of_first modifiers.list modifiers.value
  where
    place_of_first : List (ArgumentOf Give) → Option Expr → Place
    place_of_first (argument ∷ arguments) value = argument.place
    place_of_first [] (Some value) = (out-Expr value).place
    place_of_first [] None = record { file = 0; byte = 0 }

abbrev pub is_nothing : Modifiers → Bool
is_nothing modifiers = is_empty modifiers.list modifiers.value
  where
    is_empty : List (ArgumentOf Give) → Option Expr → Bool
    is_empty [] None = true
    is_empty list value = false

-- what a source holds, where it holds a list: its modifiers and its value
abbrev pub held : Given → Modifiers
held (Listed modifiers) = modifiers
held (Argued argument passed) = held_behind (names_left argument passed)
  where
    held_behind : List (List ℕ) → Modifiers
    held_behind [] = nested argument.give
    held_behind (name ∷ names) = no_modifiers
held (Replacing elements) = no_modifiers

-- ---- what a source says of a name

-- A redeclaration of an element: what declares it anew; where it stands; whether the element stays replaceable; and the source that
-- its modifiers are.
pub record Redeclaration : Type 0 where
  pub declares : Declares
  pub place : Place
  pub keeps : Bool
  pub source : Source

pub data Saying : Type 0 where
  Modifies : Source → Saying
  Redeclares : Redeclaration → Saying

-- the source behind one more name
abbrev pub behind_name : Source → List ℕ → List ℕ → Bool → Given → Source
behind_name source name pending last given = record {
  piece = record {
    given = given;
    pending = pending;
    listing = record { place = source.piece.listing.place; passed = source.piece.listing.passed ++ name ∷ [] };
    last = source.piece.last || last;
    outside = source.piece.outside;
    origin = Elsewhere;
  };
  scope = source.scope;
}

-- what declares an element of a modifier list or an element with `redeclare`
abbrev pub declared_in : Table → Element → Declares
declared_in table element = declared_by element (number_of_element table element)

-- an argument that redeclares, all of its names being passed, or the source that is left of it
abbrev pub said_behind : Table → ArgumentOf Give → ℕ → Source → Saying
said_behind table argument passed source = said_in (names_left argument passed) (out-Give argument.give)
  where
    redeclares : Element → Bool → Saying
    redeclares element keeps =
        Redeclares (record { declares = declared_in table element; place = argument.place; keeps = keeps; source = source })

    said_in : List (List ℕ) → Give-F Body Give Item What Element → Saying
    said_in [] (Give-F.Redeclare element) = redeclares element (out-Element element).flags.replaceable
    said_in [] (Give-F.Replaceable element) = redeclares element true
    said_in names give = Modifies source

-- The index of the element that is entered is added to the pending indices; `each` drops those that were pending.
abbrev pub pending_behind : Bool → List ℕ → List ℕ → List ℕ
pending_behind each pending index = if each then index else pending ++ index

abbrev pub said_by_argument : Table → Source → List ℕ → List ℕ → ArgumentOf Give → List Saying
said_by_argument table source name index argument =
    if begins_with name argument.name.0 then
    said_behind table argument 1
    (behind_name source name (pending_behind argument.each source.piece.pending index) argument.last (Argued argument 1)) ∷ []
    else []

abbrev pub said_in_list : Table → Source → List ℕ → List ℕ → List (ArgumentOf Give) → List Saying
said_in_list table source name index arguments = flat_map (said_by_argument table source name index) arguments

-- what is left of an argument behind one more of its names
abbrev pub said_further : Table → Source → List ℕ → List ℕ → ArgumentOf Give → ℕ → List Saying
said_further table source name index argument passed =
    if begins_with name (names_left argument passed) then
    said_behind table argument (passed + 1)
    (behind_name source name (source.piece.pending ++ index) false (Argued argument (passed + 1))) ∷ []
    else []

abbrev pub said_by_element : Table → Source → List ℕ → List ℕ → Declares → List Saying
said_by_element table source name index declares =
    if bytes_eq declares.name name then
    Redeclares (record {
      declares = declares;
      place = declares.place;
      keeps = declares.flags.replaceable;
      source = behind_name source name (source.piece.pending ++ index) declares.flags.last (Listed declares.own);
    }) ∷ []
    else []

abbrev pub said_by_elements : Table → Source → List ℕ → List ℕ → List Element → List Saying
said_by_elements table source name index elements =
    flat_map (λ element. said_by_element table source name index (declared_in table element)) elements

-- Of a list, the source says one thing for each argument that begins with the name, in their order.
abbrev pub said : Table → List ℕ → List ℕ → Source → List Saying
said table name index source = said_of source.piece.given
  where
    said_of : Given → List Saying
    said_of (Listed modifiers) = said_in_list table source name index modifiers.list
    said_of (Argued argument passed) =
        said_further table source name index argument passed ++ said_in_list table source name index (held (Argued argument passed)).list
    said_of (Replacing elements) = said_by_elements table source name index elements

abbrev pub said_by_all : Table → List ℕ → List ℕ → List Source → List Saying
said_by_all table name index sources = flat_map (said table name index) sources

-- ---- redeclarations

abbrev pub redeclarations_in : List Saying → List Redeclaration
redeclarations_in sayings = flat_map redeclaration_in sayings
  where
    redeclaration_in : Saying → List Redeclaration
    redeclaration_in (Modifies source) = []
    redeclaration_in (Redeclares redeclaration) = redeclaration ∷ []

abbrev pub first_of : {A : Type 0} → List A → Option A
first_of [] = None
first_of (x ∷ xs) = Some x

-- the redeclarations of an element among the sources of its frame, outermost first
abbrev pub redeclarations : Table → List Source → List ℕ → List ℕ → List Redeclaration
redeclarations table sources name index = redeclarations_in (said_by_all table name index sources)

-- the redeclaration that wins: the outermost one
abbrev pub redeclared : Table → List Source → List ℕ → List ℕ → Option Redeclaration
redeclared table sources name index = first_of (redeclarations table sources name index)

-- The source with the list of a redeclaration in its place. It has not passed through a component yet, and an empty list is no source.
abbrev pub with_list : Source → Modifiers → List Source
with_list source modifiers =
    if is_nothing modifiers then [] else
    record {
      piece = record {
        given = Listed modifiers;
        pending = source.piece.pending;
        listing = source.piece.listing;
        last = source.piece.last;
        outside = false;
        origin = source.piece.origin;
      };
      scope = source.scope;
    } ∷ []

abbrev pub or_own : Option Constraint → Declares → Modifiers
or_own (Some limit) declares = limit.modifiers
or_own None declares = declares.own

-- The modifiers of a redeclaration: its own if it wins, else those of its constraining clause if it has one.
abbrev pub brought : Bool → Redeclaration → Modifiers
brought wins redeclaration =
    if wins then redeclaration.declares.own else or_own redeclaration.declares.limit redeclaration.declares

abbrev pub sources_said : Bool → List Saying → List Source
sources_said wins [] = []
sources_said wins (Modifies source ∷ sayings) = source ∷ sources_said wins sayings
sources_said wins (Redeclares redeclaration ∷ sayings) =
    with_list redeclaration.source (brought wins redeclaration) ++ sources_said false sayings

-- the parts of sources for a name, entered at an index, the modifiers of redeclarations among them
abbrev pub parts : Table → List Source → List ℕ → List ℕ → List Source
parts table sources name index = sources_said true (said_by_all table name index sources)

-- ---- the value for a path

pub record Picked : Type 0 where
  pub value : Expr
  pub scope : Scope
  pub pending : List ℕ

abbrev pub picked_here : List Source → Option Picked
picked_here [] = None
picked_here (source ∷ sources) = picked_or (picked_here sources) (held source.piece.given).value
  where
    picked_or : Option Picked → Option Expr → Option Picked
    picked_or others (Some value) = Some (record { value = value; scope = source.scope; pending = source.piece.pending })
    picked_or others None = others

-- The first source that gives an expression for the path decides.
abbrev pub picked : Table → List Source → List (List ℕ) → Option Picked
picked table sources [] = picked_here sources
picked table sources (name ∷ names) = picked table (parts table sources name []) names

-- the first source that redeclares the path
abbrev pub redeclared_path : Table → List Source → List (List ℕ) → Option Redeclaration
redeclared_path table sources [] = None
redeclared_path table sources (name ∷ []) = redeclared table sources name []
redeclared_path table sources (name ∷ next ∷ names) = redeclared_path table (parts table sources name []) (next ∷ names)

-- ---- the sources of an element

abbrev pub written : Frame → List ℕ → Origin → Modifiers → List Source
written home index origin modifiers =
    if is_nothing modifiers then [] else
    record {
      piece = record {
        given = Listed modifiers;
        pending = index;
        listing = record { place = place_of_list modifiers; passed = [] };
        last = false;
        outside = false;
        origin = origin;
      };
      scope = record { frame = home; iterations = [] };
    } ∷ []

abbrev pub own_source : Member → List ℕ → List Source
own_source member index = written member.home index (Own_of member.declares.place) member.declares.own

abbrev pub constraint_source : Member → List ℕ → Constraint → List Source
constraint_source member index limit = written member.home index (Constraint_of member.declares.place) limit.modifiers

-- what the declaration adds: its own modifiers (those of a short class come with its base) and those of its constraining clause; where
-- it is redeclared, those of the constraining clause if there is one, else its own
abbrev pub declared_sources : Member → List ℕ → Option Redeclaration → List Source
declared_sources member index wins = added wins member.declares.limit
  where
    added : Option Redeclaration → Option Constraint → List Source
    added None None = if is_class member.declares then [] else own_source member index
    added None (Some limit) = (if is_class member.declares then [] else own_source member index) ++ constraint_source member index limit
    added (Some wins) None = own_source member index
    added (Some wins) (Some limit) = constraint_source member index limit

-- the sources of an element by its frame and its declaration, entered at an index
abbrev pub element_sources : Table → Member → List ℕ → List Source
element_sources table member index =
    parts table (sources_of member.home) member.name index
    ++ declared_sources member index (redeclared table (sources_of member.home) member.name index)

abbrev pub through_component : Source → Source
through_component source = record {
  piece = record {
    given = source.piece.given;
    pending = source.piece.pending;
    listing = source.piece.listing;
    last = source.piece.last;
    outside = true;
    origin = source.piece.origin;
  };
  scope = source.scope;
}

-- The sources of a component: those of the element, which have passed through it, then those with which the class of its type was found.
abbrev pub component_sources : Table → Member → List ℕ → Frame → List Source
component_sources table member index type =
    map through_component (element_sources table member index) ++ sources_of type

abbrev pub without_value : Source → Source
without_value source = record {
  piece = record {
    given = valueless source.piece.given;
    pending = source.piece.pending;
    listing = source.piece.listing;
    last = source.piece.last;
    outside = source.piece.outside;
    origin = source.piece.origin;
  };
  scope = source.scope;
}
  where
    listed_of : Modifiers → Given
    listed_of modifiers = Listed (record { list = modifiers.list; value = None })

    valueless_behind : ArgumentOf Give → ℕ → List (List ℕ) → Given
    valueless_behind argument passed [] = listed_of (nested argument.give)
    valueless_behind argument passed (name ∷ names) = Argued argument passed

    valueless : Given → Given
    valueless (Listed modifiers) = listed_of modifiers
    valueless (Argued argument passed) = valueless_behind argument passed (names_left argument passed)
    valueless (Replacing elements) = Replacing elements

-- the sources of a class that is an element: a value for the class itself is dropped
abbrev pub class_sources : Table → Member → List Source
class_sources table member = map without_value (element_sources table member [])

-- ---- the sources of a base

-- the elements with `redeclare` of a class, as one list
abbrev pub replacing_source : Frame → Row → List Source
replacing_source frame row = source_of row.replacing
  where
    source_of : List Element → List Source
    source_of [] = []
    source_of (element ∷ others) = record {
      piece = record {
        given = Replacing (element ∷ others);
        pending = [];
        listing = record { place = row.class.place; passed = [] };
        last = false;
        outside = false;
        origin = Elsewhere;
      };
      scope = record { frame = frame; iterations = [] };
    } ∷ []

-- The modifiers of an extends clause or a short class. Those of a short class that a redeclaration declares are a part of the source
-- that redeclares, so they are not added again.
abbrev pub clause_source : Frame → Row → Clause → List Source
clause_source frame row clause =
    if is_short_redeclaration row then [] else
    written frame [] Elsewhere (record { list = clause.mods.0; value = None })

-- what inheritance adds to the sources of a frame for a base, whose class was found as this frame
abbrev pub added_sources : Frame → Row → Clause → Frame → List Source
added_sources frame row clause base = replacing_source frame row ++ clause_source frame row clause ++ sources_of base

abbrev pub base_sources : Frame → Row → Clause → Frame → List Source
base_sources frame row clause base = sources_of frame ++ added_sources frame row clause base
