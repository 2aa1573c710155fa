-- Lookup of the names of classes and inheritance (Modelica Language Specification 3.5, sections 5.3, 5.6.1, 7.1 and 13.2).
--
-- All that needs the bases of a class goes through `Asking`: which classes are having their bases found, and what the elements of a
-- frame are meanwhile. Given that, each definition goes down a list or outwards over frames. The one knot is `walked`.
use Rattle.std.specs.Prelude.{ℕ, zero, suc, ◌+◌, ℤ, Bool, true, false, ◌&&◌, ◌||◌, List, [], ◌∷◌, ◌++◌, map, find, codes, Option, Some, None, Ok, if◌then◌else◌, nat_eq}
use Rattle.std.specs.List.{list_all, list_any}
use Rattle.std.specs.Str.{bytes_eq}
use Rattle.mo_syntax.specs.Outcome.{Outcome, and_then, breaks}
use Rattle.mo_syntax.specs.declared.expr.Expr.{Expr}
use Rattle.mo_syntax.specs.declared.expr.PartOf.{PartOf}
use Rattle.mo_syntax.specs.declared.expr.ReferenceOf.{ReferenceOf}
use Rattle.mo_syntax.specs.declared.class.Import.{Import}
use Rattle.mo_syntax.specs.declared.class.Import.TheVariants.{Renamed, Named, Group, All as Star}
use Rattle.mo_syntax.specs.declared.place.Place.{Place}
use Rattle.mo_syntax.specs.declared.rules.TheConstants.{WRONG_KIND_OF_NAME, NAME_NOT_FOUND, NOT_A_PACKAGE, PROTECTED_ELEMENT, IMPORTED_TWICE, WRONG_REPLACEABLE, INHERITED_ELEMENTS_CLASH, OUTSIDE_PROFILE, BASE_CLASS_CYCLE}
use Rattle.mo_tables.specs.Words.{code_in, functions}
use Rattle.mo_scope.specs.Rows.{Table, Row, row_at, number_of_classes, Part, Element_of, Base_of, Declares, Clause, is_class, is_constant, is_encapsulated, class_number, elements_in, top_classes, literals_in, is_left_out}
use Rattle.mo_scope.specs.Frames.{Frame, Top, In, Iterations, Scope, Member, class_of, sources_of, at_of, looked_up, gathered, owner_of_base, is_same_base, is_same_declaration}
use Rattle.mo_scope.specs.Parts.{Redeclaration, redeclared, class_sources, base_sources}

-- ---- what is found

-- A component, with the frame among whose elements it was found; a class as the frame that it is entered as, and whether its element is
-- replaceable; a literal of an enumeration by its place; an iteration variable with its value; a predefined function by its code.
pub data Found : Type 0 where
  Component : Frame → Member → Found
  Class : Frame → (replaceable : Bool) → Found
  Literal : (class : ℕ) → ℕ → Found
  Iteration : ℤ → Found
  Function : ℕ → Found
  Time : Found

-- An element with the base frames on the way to the frame whose class declares it, outermost first.
pub record Inherited : Type 0 where
  pub member : Member
  pub through : List Frame

-- The elements of a frame in their order; its base frames, each once with those on the way to it, outermost first: in the order of the
-- extends clauses, and in the order of their sections, where the bases of a base come before it; and the frame at the end of its
-- bases, where this is a predefined type or an enumeration.
pub record Walked : Type 0 where
  pub members : List Inherited
  pub bases : List (List Frame)
  pub sections : List (List Frame)
  pub leaf : Option Frame

-- The classes whose bases are being found, and what the elements of a frame are meanwhile. A place travels with each ask: rule 18
-- stands there.
pub record Asking : Type 0 where
  pub busy : List ℕ
  pub elements : Place → Frame → Outcome Walked

abbrev pub contains : List ℕ → ℕ → Bool
contains numbers n = list_any (λ m. nat_eq m n) numbers

-- ---- own elements

abbrev pub members_from : Frame → ℕ → List Declares → List Member
members_from frame item [] = []
members_from frame item (declares ∷ others) =
    record { name = declares.name; home = frame; item = item; hidden = declares.flags.hidden; declares = declares }
    ∷ members_from frame (item + 1) others

-- the elements that the class of a frame declares itself
abbrev pub own_members : Table → Frame → List Member
own_members table frame = members_of (row_at table (class_of frame))
  where
    members_of : Option Row → List Member
    members_of None = []
    members_of (Some row) = members_from frame 0 (elements_in row.parts)

abbrev pub named : List ℕ → List Member → Option Member
named name members = find (λ member. bytes_eq member.name name) members

abbrev pub members_in : Walked → List Member
members_in walked = map (λ inherited. inherited.member) walked.members

-- ---- literals

-- the names of `StateSelect` and `AssertionLevel` have the numbers 4 and 5
abbrev pub predefined_literals : ℕ → List (List ℕ)
predefined_literals class =
    if nat_eq class 4 then codes "never" ∷ codes "avoid" ∷ codes "default" ∷ codes "prefer" ∷ codes "always" ∷ [] else
    (if nat_eq class 5 then codes "warning" ∷ codes "error" ∷ [] else [])

abbrev pub literals_at : Table → ℕ → List (List ℕ)
literals_at table class = literals_by (row_at table class)
  where
    listed : Option (List (List ℕ)) → List (List ℕ)
    listed None = []
    listed (Some literals) = literals

    literals_by : Option Row → List (List ℕ)
    literals_by None = predefined_literals class
    literals_by (Some row) = listed (literals_in row.form)

-- A class that ends at an enumeration has its literals.
abbrev pub literal_of : Table → Option Frame → List ℕ → Option Found
literal_of table None name = None
literal_of table (Some leaf) name = literal_at (code_in (literals_at table (class_of leaf)) name)
  where
    literal_at : Option ℕ → Option Found
    literal_at None = None
    literal_at (Some place) = Some (Literal (class_of leaf) place)

-- ---- the elements of what was found

pub data Reached : Type 0 where
  Element : Member → Reached
  Other : Found → Reached
  Absent : Reached

abbrev pub reached_in : Table → Walked → List ℕ → Reached
reached_in table walked name = reached_by (named name (members_in walked))
  where
    reached_literal : Option Found → Reached
    reached_literal None = Absent
    reached_literal (Some found) = Other found

    reached_by : Option Member → Reached
    reached_by (Some member) = Element member
    reached_by None = reached_literal (literal_of table walked.leaf name)

-- Among the elements of a frame the own ones come first, and its bases are found only where none of them has the name.
abbrev pub reached : Table → Asking → Place → Frame → List ℕ → Outcome Reached
reached table asking place frame name = reached_or (named name (own_members table frame))
  where
    reached_or : Option Member → Outcome Reached
    reached_or (Some member) = Ok (Element member)
    reached_or None = and_then (asking.elements place frame) (λ walked. Ok (reached_in table walked name))

-- in a class that is having its bases found, without the inherited elements
abbrev pub reached_own : Table → Frame → List ℕ → Outcome Reached
reached_own table frame name = reached_by (named name (own_members table frame))
  where
    reached_by : Option Member → Outcome Reached
    reached_by (Some member) = Ok (Element member)
    reached_by None = Ok Absent

abbrev pub counts_in_package : Member → Bool
counts_in_package member = is_class member.declares || is_constant member.declares

-- A class is a package if it declares nothing but classes and constants, inherited elements included; its own elements alone count while
-- its bases are being found.
abbrev pub is_package : Table → Asking → Place → Frame → Outcome Bool
is_package table asking place frame =
    if contains asking.busy (class_of frame) then Ok (list_all counts_in_package (own_members table frame)) else
    and_then (asking.elements place frame) (λ walked. Ok (list_all counts_in_package (members_in walked)))

-- ---- a class that is an element

-- The outermost source that redeclares the element decides; a component in its place breaks rule 13.
abbrev pub entered : Table → Member → Outcome Frame
entered table member = entered_by (redeclared table (sources_of member.home) member.name [])
  where
    entered_as : ℕ → Frame → Outcome Frame
    entered_as class outer = Ok (looked_up class (class_sources table member) outer)

    entered_by : Option Redeclaration → Outcome Frame
    entered_by None = entered_as (class_number member.declares) member.home
    entered_by (Some redeclaration) =
        if is_class redeclaration.declares then entered_as (class_number redeclaration.declares) redeclaration.source.scope.frame else
        breaks WRONG_KIND_OF_NAME redeclaration.place

-- an element that was found among those of a frame
abbrev pub met : Table → Frame → Member → Outcome Found
met table frame member =
    if is_class member.declares then and_then (entered table member) (λ class. Ok (Class class member.declares.flags.replaceable)) else
    Ok (Component frame member)

-- ---- the top

abbrev pub type_names : List (List ℕ)
type_names = codes "Real" ∷ codes "Integer" ∷ codes "Boolean" ∷ codes "String" ∷ codes "StateSelect" ∷ codes "AssertionLevel" ∷ []

abbrev pub predefined_function : Option ℕ → Option Found
predefined_function None = None
predefined_function (Some code) = Some (Function code)

-- Behind the top, and behind an encapsulated class, only predefined names are found.
abbrev pub predefined : List ℕ → Option Found
predefined name = predefined_by (code_in type_names name)
  where
    predefined_by : Option ℕ → Option Found
    predefined_by (Some number) = Some (Class (looked_up number [] Top) false)
    predefined_by None = if bytes_eq name (codes "time") then Some Time else predefined_function (code_in functions name)

abbrev pub at_top : Table → List ℕ → Option Found
at_top table name = found_or (find (λ row. bytes_eq row.class.name name) (top_classes table))
  where
    found_or : Option Row → Option Found
    found_or (Some row) = Some (Class (looked_up row.number [] Top) false)
    found_or None = predefined name

abbrev pub or_absent : Place → Option Found → Outcome Found
or_absent place (Some found) = Ok found
or_absent place None = breaks NAME_NOT_FOUND place

-- ---- a name behind a dot

-- In a class that is no package only encapsulated elements are found.
abbrev pub counted : Table → Asking → (ask : Place) → (place : Place) → Frame → Member → Outcome Member
counted table asking ask place frame member =
    and_then (is_package table asking ask frame) (λ open_to_all.
    if open_to_all || is_encapsulated member.declares then Ok member else breaks NOT_A_PACKAGE place)

-- What stands behind a class: absent is rule 12, what does not count rule 16, a protected element rule 17. Where `component` is given,
-- a component breaks rule 13 there before it is asked whether it is protected.
abbrev pub behind_class : Table → Asking → (ask : Place) → (place : Place) → (component : Option Place) → Frame → List ℕ → Outcome Found
behind_class table asking ask place component frame name = and_then (reached table asking ask frame name) found_at
  where
    open_element : Member → Outcome Found
    open_element member = if member.hidden then breaks PROTECTED_ELEMENT place else met table frame member

    element : Option Place → Member → Outcome Found
    element None member = open_element member
    element (Some wrong) member = if is_class member.declares then open_element member else breaks WRONG_KIND_OF_NAME wrong

    found_at : Reached → Outcome Found
    found_at Absent = breaks NAME_NOT_FOUND place
    found_at (Other found) = Ok found
    found_at (Element member) = and_then (counted table asking ask place frame member) (element component)

-- the class that was found; anything else breaks rule 13
abbrev pub class_wanted : Place → Found → Outcome Frame
class_wanted place (Class frame replaceable) = Ok frame
class_wanted place found = breaks WRONG_KIND_OF_NAME place

-- ---- imports

abbrev pub first_at_top : Table → Place → List ℕ → Outcome Found
first_at_top table place name = or_absent place (at_top table name)

-- The name of an import starts at the top. What stands before a dot is a class, or rule 13 is broken. Bases are asked at the place of the
-- name that is looked up; all else stands at the first identifier of the import's name.
abbrev pub import_behind : Table → Asking → (ask : Place) → (place : Place) → Found → List (List ℕ) → Outcome Found
import_behind table asking ask place found [] = Ok found
import_behind table asking ask place found (name ∷ names) =
    and_then (class_wanted place found) (λ frame.
    and_then (behind_class table asking ask place (before_dot names) frame name) (λ next.
    import_behind table asking ask place next names))
  where
    before_dot : List (List ℕ) → Option Place
    before_dot [] = None
    before_dot (name ∷ names) = Some place

abbrev pub imported : Table → Asking → (ask : Place) → (place : Place) → List (List ℕ) → Outcome Found
imported table asking ask place [] = breaks NAME_NOT_FOUND place
imported table asking ask place (name ∷ names) =
    and_then (first_at_top table place name) (λ found. import_behind table asking ask place found names)

-- the package before `.*`
abbrev pub imported_package : Table → Asking → (ask : Place) → (place : Place) → List (List ℕ) → Outcome Frame
imported_package table asking ask place [] = breaks NAME_NOT_FOUND place
imported_package table asking ask place (name ∷ names) =
    and_then (first_at_top table place name) (λ found.
    and_then (class_wanted place found) (λ frame. package_behind frame names))
  where
    package_behind : Frame → List (List ℕ) → Outcome Frame
    package_behind frame [] = Ok frame
    package_behind frame (name ∷ names) =
        and_then (behind_class table asking ask place (Some place) frame name) (λ found.
        and_then (class_wanted place found) (λ next. package_behind next names))

-- Through `.*` a protected or absent element is not found.
abbrev pub through_star : Table → Asking → (ask : Place) → (place : Place) → Frame → List ℕ → Outcome (Option Found)
through_star table asking ask place frame name = and_then (reached table asking ask frame name) found_at
  where
    found_at : Reached → Outcome (Option Found)
    found_at Absent = Ok None
    found_at (Other found) = Ok (Some found)
    found_at (Element member) =
        if member.hidden then Ok None else
        and_then (counted table asking ask place frame member) (λ counted. and_then (met table frame counted) (λ found. Ok (Some found)))

-- other declarations, whatever the frames are
abbrev pub is_same_found : Found → Found → Bool
is_same_found (Component frame member) (Component frame' member') = is_same_declaration member member'
is_same_found (Class frame replaceable) (Class frame' replaceable') = nat_eq (class_of frame) (class_of frame')
is_same_found (Literal class place) (Literal class' place') = nat_eq class class' && nat_eq place place'
is_same_found (Function code) (Function code') = nat_eq code code'
is_same_found Time Time = true
is_same_found found other = false

-- Two different elements found for one name are rule 14 at that name; of one element the first import's is taken.
abbrev pub and_also : Place → Option Found → Option Found → Outcome (Option Found)
and_also ask None found = Ok found
and_also ask (Some found) None = Ok (Some found)
and_also ask (Some found) (Some other) = if is_same_found found other then Ok (Some found) else breaks IMPORTED_TWICE ask

abbrev pub last_name : List (List ℕ) → List ℕ
last_name [] = []
last_name (name ∷ []) = name
last_name (name ∷ next ∷ names) = last_name (next ∷ names)

-- the path that a qualified or renaming import gives for a name, with the place of its first identifier
abbrev pub imported_as : List ℕ → Import → Option (List (List ℕ) × Place)
imported_as name (Renamed alias path place) = if bytes_eq alias name then Some (path.0, place) else None
imported_as name (Named path place) = if bytes_eq (last_name path.0) name then Some (path.0, place) else None
imported_as name (Group path names place) = if list_any (λ other. bytes_eq other name) names then Some (path.0 ++ name ∷ [], place) else None
imported_as name (Star path place) = None

abbrev pub found_by_import : Table → Asking → (ask : Place) → List ℕ → Import → Outcome (Option Found)
found_by_import table asking ask name clause = found_at (imported_as name clause)
  where
    found_at : Option (List (List ℕ) × Place) → Outcome (Option Found)
    found_at None = Ok None
    found_at (Some path) = and_then (imported table asking ask path.1 path.0) (λ found. Ok (Some found))

abbrev pub found_by_star : Table → Asking → (ask : Place) → List ℕ → Import → Outcome (Option Found)
found_by_star table asking ask name (Star path place) =
    and_then (imported_package table asking ask place path.0) (λ frame. through_star table asking ask place frame name)
found_by_star table asking ask name clause = Ok None

abbrev pub found_by_each : (Import → Outcome (Option Found)) → Place → Option Found → List Import → Outcome (Option Found)
found_by_each find ask so_far [] = Ok so_far
found_by_each find ask so_far (clause ∷ clauses) =
    and_then (find clause) (λ found.
    and_then (and_also ask so_far found) (λ so_far. found_by_each find ask so_far clauses))

-- the names of qualified and renaming imports, then the public elements of packages imported by `.*`
abbrev pub found_by_imports : Table → Asking → (ask : Place) → Row → List ℕ → Outcome (Option Found)
found_by_imports table asking ask row name =
    and_then (found_by_each (found_by_import table asking ask name) ask None row.imports) or_star
  where
    or_star : Option Found → Outcome (Option Found)
    or_star (Some found) = Ok (Some found)
    or_star None = found_by_each (found_by_star table asking ask name) ask None row.imports

-- ---- a simple name

-- What a name finds, and whether it is an element of the frame that the text stands in.
pub record Met : Type 0 where
  pub found : Found
  pub near : Bool

-- among the elements of one frame; where it is `bare`, without the inherited ones
abbrev pub found_element : Table → Asking → (bare : Bool) → Frame → Place → List ℕ → Outcome (Option Found)
found_element table asking bare frame place name =
    and_then (if bare then reached_own table frame name else reached table asking place frame name) found_at
  where
    found_at : Reached → Outcome (Option Found)
    found_at (Element member) = and_then (met table frame member) (λ found. Ok (Some found))
    found_at other = Ok None

-- in one frame: elements, then imports
abbrev pub found_in : Table → Asking → (bare : Bool) → (near : Bool) → Frame → Place → List ℕ → Outcome (Option Met)
found_in table asking bare near frame place name =
    and_then (found_element table asking bare frame place name) or_imports
  where
    through_imports : Option Row → Outcome (Option Met)
    through_imports None = Ok None
    through_imports (Some row) = and_then (found_by_imports table asking place row name) (λ found. Ok (imported_met found))
      where
        imported_met : Option Found → Option Met
        imported_met None = None
        imported_met (Some found) = Some (record { found = found; near = false })

    or_imports : Option Found → Outcome (Option Met)
    or_imports (Some found) = Ok (Some (record { found = found; near = near }))
    or_imports None = through_imports (row_at table (class_of frame))

abbrev pub is_closed : Table → Frame → Bool
is_closed table frame = is_encapsulated_row (row_at table (class_of frame))
  where
    is_encapsulated_row : Option Row → Bool
    is_encapsulated_row None = false
    is_encapsulated_row (Some row) = row.class.flags.encapsulated

abbrev pub met_far : Outcome Found → Outcome Met
met_far outcome = and_then outcome (λ found. Ok (record { found = found; near = false }))

-- The walk outwards: the frame of the text, each enclosing frame, and the top. It ends behind an encapsulated class.
abbrev pub found_from : Table → Asking → (bare : Bool) → (near : Bool) → Frame → Place → List ℕ → Outcome Met
found_from table asking bare near Top place name = met_far (or_absent place (at_top table name))
found_from table asking bare near (In class sources outer at owner) place name =
    or_further (found_from table asking false false outer place name)
    (found_in table asking bare near (In class sources outer at owner) place name)
  where
    further : Outcome Met → Option Met → Outcome Met
    further beyond (Some found) = Ok found
    further beyond None =
        if is_closed table (In class sources outer at owner) then met_far (or_absent place (predefined name)) else beyond

    or_further : Outcome Met → Outcome (Option Met) → Outcome Met
    or_further beyond here = and_then here (further beyond)

-- the value of the innermost iteration variable of that name
abbrev pub iteration : Iterations → List ℕ → Option ℤ
iteration [] name = None
iteration ((variable, value) ∷ variables) name = if bytes_eq variable name then Some value else iteration variables name

abbrev pub found_by_name : Table → Asking → (bare : Bool) → Scope → Place → List ℕ → Outcome Met
found_by_name table asking bare scope place name = found_or (iteration scope.iterations name)
  where
    found_or : Option ℤ → Outcome Met
    found_or (Some value) = Ok (record { found = Iteration value; near = true })
    found_or None = found_from table asking bare true scope.frame place name

-- the first identifier of a name; a leading dot starts at the top
abbrev pub found_first : Table → Asking → (bare : Bool) → (top : Bool) → Scope → PartOf Expr → Outcome Met
found_first table asking bare top scope part =
    if top then met_far (first_at_top table part.place part.name) else found_by_name table asking bare scope part.place part.name

-- ---- the name of a class

-- the class that a name finds, and whether its element is replaceable
pub record Classed : Type 0 where
  pub frame : Frame
  pub replaceable : Bool

-- In the name of a type, a base or a constraining class each identifier finds a class, or rule 13 is broken at it and nothing else is asked.
abbrev pub classed : Place → Found → Outcome Classed
classed place (Class frame replaceable) = Ok (record { frame = frame; replaceable = replaceable })
classed place found = breaks WRONG_KIND_OF_NAME place

abbrev pub class_behind : Table → Asking → Classed → List (PartOf Expr) → Outcome Classed
class_behind table asking class [] = Ok class
class_behind table asking class (part ∷ parts) =
    and_then (behind_class table asking part.place part.place (Some part.place) class.frame part.name) (λ found.
    and_then (classed part.place found) (λ next. class_behind table asking next parts))

abbrev pub class_named : Table → Asking → (bare : Bool) → Scope → ReferenceOf Expr → Outcome Classed
class_named table asking bare scope reference = named_from reference.parts
  where
    named_from : List (PartOf Expr) → Outcome Classed
    named_from [] = breaks NAME_NOT_FOUND (record { file = 0; byte = 0 })
    named_from (part ∷ parts) =
        and_then (found_first table asking bare reference.top scope part) (λ met.
        and_then (classed part.place met.found) (λ class. class_behind table asking class parts))

abbrev pub last_place : List (PartOf Expr) → Place
last_place [] = record { file = 0; byte = 0 }
last_place (part ∷ []) = part.place
last_place (part ∷ next ∷ parts) = last_place (next ∷ parts)

-- ---- bases

-- The name of a base is looked up without the inherited elements of the class itself. A replaceable one is rule 24 at its last identifier.
abbrev pub base_class : Table → Asking → Frame → Clause → Outcome Frame
base_class table asking frame clause =
    and_then (class_named table asking true (record { frame = frame; iterations = [] }) clause.base) (λ class.
    if class.replaceable then breaks WRONG_REPLACEABLE (last_place clause.base.parts) else Ok class.frame)

-- A base has the path of the frame, and the frame as its owner if that has a path or an owner.
abbrev pub base_frame : Frame → Row → Clause → Frame → Frame
base_frame frame row clause class =
    In (class_of class) (gathered (base_sources frame row clause class)) (outer_of class) (at_of frame) (owner_of_base frame)
  where
    outer_of : Frame → Frame
    outer_of Top = Top
    outer_of (In number sources outer at owner) = outer

abbrev pub base_of : Table → Asking → Frame → Row → Clause → Outcome Frame
base_of table asking frame row clause =
    and_then (base_class table asking frame clause) (λ class. Ok (base_frame frame row clause class))

-- ---- joining elements

abbrev pub nothing_walked : Option Frame → Walked
nothing_walked leaf = record { members = []; bases = []; sections = []; leaf = leaf }

-- an element of another name than those before; else rule 19 at it
abbrev pub with_member : Inherited → Walked → Outcome Walked
with_member inherited so_far =
    if list_any (λ other. bytes_eq other.member.name inherited.member.name) so_far.members then breaks INHERITED_ELEMENTS_CLASH inherited.member.declares.place else
    Ok (record { members = so_far.members ++ inherited ∷ []; bases = so_far.bases; sections = so_far.sections; leaf = so_far.leaf })

abbrev pub with_members : List Inherited → Walked → Outcome Walked
with_members [] so_far = Ok so_far
with_members (inherited ∷ others) so_far = and_then (with_member inherited so_far) (with_members others)

abbrev pub final_frame : List Frame → Frame
final_frame [] = Top
final_frame (frame ∷ []) = frame
final_frame (frame ∷ next ∷ frames) = final_frame (next ∷ frames)

-- whether one of these base frames is among the bases before
abbrev pub is_counted : List (List Frame) → List Frame → Bool
is_counted bases through = list_any (λ frame. list_any (λ base. is_same_base (final_frame base) frame) bases) through

abbrev pub through_base : Frame → Inherited → Inherited
through_base base inherited = record { member = inherited.member; through = base ∷ inherited.through }

-- Under `protected` an extends clause gives protected elements.
abbrev pub hidden_if : Bool → Inherited → Inherited
hidden_if hidden inherited = record {
  member = record {
    name = inherited.member.name;
    home = inherited.member.home;
    item = inherited.member.item;
    hidden = inherited.member.hidden || hidden;
    declares = inherited.member.declares;
  };
  through = inherited.through;
}

abbrev pub or_leaf : Option Frame → Option Frame → Option Frame
or_leaf (Some leaf) other = Some leaf
or_leaf None other = other

abbrev pub not_counted : {A : Type 0} → (A → Bool) → List A → List A
not_counted is [] = []
not_counted is (x ∷ xs) = if is x then not_counted is xs else x ∷ not_counted is xs

-- The elements of a base behind those before. A base that is met again counts once, with all that it inherits.
abbrev pub with_base : Bool → Frame → Walked → Walked → Outcome Walked
with_base hidden base walked so_far =
    with_members
    (not_counted (λ inherited. is_counted so_far.bases inherited.through) (map (λ inherited. hidden_if hidden (through_base base inherited)) walked.members))
    (record {
      members = so_far.members;
      bases = so_far.bases ++ not_counted (is_counted so_far.bases) ((base ∷ []) ∷ map (λ bases. base ∷ bases) walked.bases);
      sections = so_far.sections ++ not_counted (is_counted so_far.bases) (map (λ bases. base ∷ bases) walked.sections ++ (base ∷ []) ∷ []);
      leaf = or_leaf so_far.leaf walked.leaf;
    })

-- ---- the elements of a frame

-- the elements of a class in the order of its parts, each extends clause replaced by the elements of its base
abbrev pub walked_parts : Table → Asking → Frame → Row → (item : ℕ) → List Part → Walked → Outcome Walked
walked_parts table asking frame row item [] so_far = Ok so_far
walked_parts table asking frame row item (Element_of declares ∷ parts) so_far =
    and_then (with_member (record { member = member; through = [] }) so_far) (walked_parts table asking frame row (item + 1) parts)
  where
    member : Member
    member = record { name = declares.name; home = frame; item = item; hidden = declares.flags.hidden; declares = declares }
walked_parts table asking frame row item (Base_of clause ∷ parts) so_far =
    and_then (base_of table asking frame row clause) (λ base.
    and_then (asking.elements (last_place clause.base.parts) base) (λ walked.
    and_then (with_base clause.hidden base walked so_far) (walked_parts table asking frame row item parts)))

-- A predefined type and an enumeration are leaf types, and so is a class that ends at one. No leaf type has elements.
abbrev pub leaf_checked : Walked → Outcome Walked
leaf_checked walked = checked walked.leaf walked.members
  where
    checked : Option Frame → List Inherited → Outcome Walked
    checked (Some leaf) (inherited ∷ others) = breaks WRONG_KIND_OF_NAME inherited.member.declares.place
    checked leaf members = Ok walked

abbrev pub leaf_of : Row → Frame → Option Frame
leaf_of row frame = leaf_by (literals_in row.form)
  where
    leaf_by : Option (List (List ℕ)) → Option Frame
    leaf_by None = None
    leaf_by (Some literals) = Some frame

abbrev pub walked_row : Table → Asking → Frame → Row → Outcome Walked
walked_row table asking frame row =
    if is_left_out row then breaks OUTSIDE_PROFILE row.class.place else
    and_then (walked_parts table asking frame row 0 row.parts (nothing_walked (leaf_of row frame))) leaf_checked

abbrev pub walked_class : Table → Asking → Frame → Option Row → Outcome Walked
walked_class table asking frame None = Ok (nothing_walked (Some frame))
walked_class table asking frame (Some row) = walked_row table asking frame row

abbrev pub with_busy : List ℕ → Frame → List ℕ
with_busy busy frame = busy ++ class_of frame ∷ []

-- A class whose bases are asked for while they are being found breaks rule 18 where they are asked again.
abbrev pub walked_by : Table → (List ℕ → Place → Frame → Outcome Walked) → List ℕ → Place → Frame → Outcome Walked
walked_by table ask busy place frame =
    if contains busy (class_of frame) then breaks BASE_CLASS_CYCLE place else
    walked_class table (record { busy = with_busy busy frame; elements = ask (with_busy busy frame) }) frame (row_at table (class_of frame))

-- The number tells how many classes are not having their bases found. Where none is left, the class of the frame is among those that are.
unfoldable pub walked : Table → ℕ → List ℕ → Place → Frame → Outcome Walked
walked table zero busy place frame = breaks BASE_CLASS_CYCLE place
walked table (suc left) busy place frame = walked_by table (walked table left) busy place frame

-- what the elements of frames are where no class is having its bases found
abbrev pub asking_of : Table → Asking
asking_of table = record { busy = []; elements = walked table (number_of_classes table) [] }

-- what they are while those of these classes are being found, and so many others may
abbrev pub asking_at : Table → (left : ℕ) (busy : List ℕ) → Asking
asking_at table left busy = record { busy = busy; elements = walked table left busy }

-- what they are while those of one class are being found
abbrev pub asking_in : Table → (class : ℕ) → Asking
asking_in table class = record { busy = class ∷ []; elements = walked table (number_of_classes table) (class ∷ []) }
