-- Elements, children, and the names of expressions and types (Modelica Language Specification 3.5, sections 5.3, 5.4, 7.2 and 7.3).
--
-- Here no class is having its bases found, since the type of a component is found through classes alone.
use Rattle.std.specs.Prelude.{ℕ, Bool, false, ◌&&◌, ◌||◌, not, List, [], ◌∷◌, ◌++◌, find, Option, Some, None, Ok, option_map, if◌then◌else◌}
use Rattle.std.specs.Str.{bytes_eq}
use Rattle.mo_syntax.specs.Outcome.{Outcome, and_then, breaks}
use Rattle.mo_syntax.specs.declared.expr.Expr.{Expr}
use Rattle.mo_syntax.specs.declared.expr.PartOf.{PartOf}
use Rattle.mo_syntax.specs.declared.expr.ReferenceOf.{ReferenceOf}
use Rattle.mo_syntax.specs.declared.class.ComponentOf.{ComponentOf}
use Rattle.mo_syntax.specs.declared.class.Give.{Give}
use Rattle.mo_syntax.specs.declared.place.Place.{Place}
use Rattle.mo_scope.specs.Rows.{Table, Row, row_at, Declares, is_class, is_constant, component_of, clauses_in, Clause}
use Rattle.mo_scope.specs.Frames.{Frame, In, Indexed, Scope, Source, Member, class_of, sources_of, outer_of, at_of, owners, gathered, is_same_element}
use Rattle.mo_scope.specs.Parts.{Redeclaration, redeclared, component_sources}
use Rattle.mo_scope.specs.Lookup.{Found, Component, Class, Walked, Reached, Element, asking_of, asking_in, base_of, behind_class, class_named, entered, found_by_name, found_first, members_in, reached}
use Rattle.mo_syntax.specs.declared.rules.TheConstants.{WRONG_KIND_OF_NAME, NAME_NOT_FOUND, NO_INNER, NOT_A_CONSTANT, PROTECTED_ELEMENT}

-- ---- elements and bases

-- the elements of a frame with its base frames; no place is asked of, since no class is having its bases found
abbrev pub walk_of : Table → Frame → Outcome Walked
walk_of table frame = (asking_of table).elements (record { file = 0; byte = 0 }) frame

-- the elements of a frame in their order
abbrev pub elements_of : Table → Frame → Outcome (List Member)
elements_of table frame = and_then (walk_of table frame) (λ walked. Ok (members_in walked))

-- the extends clauses of the class of a frame
abbrev pub clauses_of : Table → Frame → List Clause
clauses_of table frame = clauses_at (row_at table (class_of frame))
  where
    clauses_at : Option Row → List Clause
    clauses_at None = []
    clauses_at (Some row) = clauses_in row.parts

-- the base frame of one of them
abbrev pub base_frame_of : Table → Frame → Clause → Outcome Frame
base_frame_of table frame clause = base_at (row_at table (class_of frame))
  where
    base_at : Option Row → Outcome Frame
    base_at None = Ok frame
    base_at (Some row) = base_of table (asking_in table (class_of frame)) frame row clause

-- ---- children

-- An element of a frame, entered: what declares it, and the redeclaration that wins, if there is one; the class of its type as it was
-- found; and its sources.
pub record Child : Type 0 where
  pub declares : Declares
  pub redeclared : Option Redeclaration
  pub class : Frame
  pub sources : List Source

abbrev pub scope_of_home : Member → Scope
scope_of_home member = record { frame = member.home; iterations = [] }

-- the component that declares the type, and the scope in which that is looked up; a class in its place breaks rule 13
abbrev pub typed_by : Member → ComponentOf Give → Option Redeclaration → Outcome (ComponentOf Give × Scope)
typed_by member component None = Ok (component, scope_of_home member)
typed_by member component (Some redeclaration) = typed_in (component_of redeclaration.declares)
  where
    typed_in : Option (ComponentOf Give) → Outcome (ComponentOf Give × Scope)
    typed_in None = breaks WRONG_KIND_OF_NAME redeclaration.place
    typed_in (Some other) = Ok (other, redeclaration.source.scope)

abbrev pub child_by : Table → Member → List ℕ → Option Redeclaration → Outcome Child
child_by table member index wins = child_in (component_of member.declares)
  where
    child_in : Option (ComponentOf Give) → Outcome Child
    child_in None =
        and_then (entered table member) (λ class. Ok (record { declares = member.declares; redeclared = wins; class = class; sources = sources_of class }))
    child_in (Some component) =
        and_then (typed_by member component wins) (λ typed.
        and_then (class_named table (asking_of table) false typed.1 typed.0.base) (λ type.
        Ok (record { declares = member.declares; redeclared = wins; class = type.frame; sources = component_sources table member index type.frame })))

-- an element of a frame, entered at an index: by the outermost redeclaration, or by its declaration
abbrev pub child_of_member : Table → Member → List ℕ → Outcome Child
child_of_member table member index = child_by table member index (redeclared table (sources_of member.home) member.name index)

-- the element of that name; where the frame has none, rule 12
abbrev pub child_of : Table → Frame → List ℕ → List ℕ → Outcome Child
child_of table frame name index = and_then (reached table (asking_of table) (record { file = 0; byte = 0 }) frame name) child_at
  where
    child_at : Reached → Outcome Child
    child_at (Element member) = child_of_member table member index
    child_at other = breaks NAME_NOT_FOUND (record { file = 0; byte = 0 })

-- the path of a component below the instance whose class declares it
abbrev pub path_below : Option Indexed → List ℕ → List ℕ → Option Indexed
path_below at name index = option_map (λ names. names ++ (name, index) ∷ []) at

-- the frame of a component: its owner is the frame whose class declares it
abbrev pub component_frame : Member → List ℕ → Child → Frame
component_frame member index child =
    In (class_of child.class) (gathered child.sources) (outer_of child.class) (path_below (at_of member.home) member.name index) member.home

-- the frame of a component, entered at an index
abbrev pub component_entered : Table → Member → List ℕ → Outcome Frame
component_entered table member index = and_then (child_of_member table member index) (λ child. Ok (component_frame member index child))

-- ---- components that stand for the inner one

abbrev pub is_inner_for : Member → Member → Bool
is_inner_for outer member =
    bytes_eq member.name outer.name && member.declares.flags.inner && not (is_class member.declares) && not (is_same_element member outer)

-- the first component of its name, other than itself, that is declared `inner` among the elements of these frames; none is rule 45
abbrev pub inner_among : Table → (ask : Place) → Member → List Frame → Outcome (Frame × Member)
inner_among table ask outer [] = breaks NO_INNER outer.declares.place
inner_among table ask outer (owner ∷ others) =
    and_then ((asking_of table).elements ask owner) (λ walked.
    inner_or (inner_among table ask outer others) (find (is_inner_for outer) (members_in walked)))
  where
    inner_or : Outcome (Frame × Member) → Option Member → Outcome (Frame × Member)
    inner_or others (Some member) = Ok (owner, member)
    inner_or others None = others

-- A component that is declared `outer` stands for the inner one among the elements of its frame's owners.
abbrev pub inner_of : Table → (ask : Place) → Member → Outcome (Frame × Member)
inner_of table ask outer = inner_among table ask outer (owners outer.home)

abbrev pub stands_for : Table → (ask : Place) → Found → Outcome Found
stands_for table ask (Component frame member) =
    if member.declares.flags.outer then and_then (inner_of table ask member) (λ inner. Ok (Component inner.0 inner.1)) else Ok (Component frame member)
stands_for table ask found = Ok found

-- ---- the names of expressions

-- A component of an enclosing frame, or of a class, is a constant, or rule 15 is broken at its name.
abbrev pub constant_unless : Bool → Place → Found → Outcome Found
constant_unless near place (Component frame member) = if near || is_constant member.declares then Ok (Component frame member) else breaks NOT_A_CONSTANT place
constant_unless near place found = Ok found

-- what was found, asked for a constant and then for the inner component
abbrev pub taken : Table → (near : Bool) → Place → Found → Outcome Found
taken table near place found = and_then (constant_unless near place found) (stands_for table place)

-- Behind a component: absent is rule 12, a class rule 13, a protected element rule 17.
abbrev pub behind_component : Table → Place → Member → List ℕ → Outcome Found
behind_component table place member name =
    and_then (child_of_member table member []) (λ child.
    and_then (reached table (asking_of table) place (component_frame member [] child) name) (found_at (component_frame member [] child)))
  where
    found_at : Frame → Reached → Outcome Found
    found_at frame (Element part) =
        if is_class part.declares then breaks WRONG_KIND_OF_NAME place else
        (if part.hidden then breaks PROTECTED_ELEMENT place else stands_for table place (Component frame part))
    found_at frame other = breaks NAME_NOT_FOUND place

-- what stands behind a dot in an expression
abbrev pub behind_found : Table → Found → PartOf Expr → Outcome Found
behind_found table (Class frame replaceable) part =
    and_then (behind_class table (asking_of table) part.place part.place None frame part.name) (taken table false part.place)
behind_found table (Component frame member) part = behind_component table part.place member part.name
behind_found table found part = breaks NAME_NOT_FOUND part.place

abbrev pub found_behind : Table → Found → List (PartOf Expr) → Outcome Found
found_behind table found [] = Ok found
found_behind table found (part ∷ parts) = and_then (behind_found table found part) (λ next. found_behind table next parts)

-- a simple name in a scope
abbrev pub found : Table → Scope → List ℕ → Place → Outcome Found
found table scope name place =
    and_then (found_by_name table (asking_of table) false scope place name) (λ met. taken table met.near place met.found)

-- a name of several identifiers in a scope, in an expression
abbrev pub found_reference : Table → Scope → ReferenceOf Expr → Outcome Found
found_reference table scope reference = found_from_parts reference.parts
  where
    found_from_parts : List (PartOf Expr) → Outcome Found
    found_from_parts [] = breaks NAME_NOT_FOUND (record { file = 0; byte = 0 })
    found_from_parts (part ∷ parts) =
        and_then (found_first table (asking_of table) false reference.top scope part) (λ met.
        and_then (taken table met.near part.place met.found) (λ first. found_behind table first parts))

-- the name of a type, a base or a constraining class
abbrev pub found_class : Table → Scope → ReferenceOf Expr → Outcome Found
found_class table scope reference =
    and_then (class_named table (asking_of table) false scope reference) (λ class. Ok (Class class.frame class.replaceable))

abbrev pub found_path : Table → Scope → ReferenceOf Expr → (class_wanted : Bool) → Outcome Found
found_path table scope reference class_wanted = if class_wanted then found_class table scope reference else found_reference table scope reference
