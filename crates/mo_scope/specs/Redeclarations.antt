-- The redeclarations among the sources of a frame (Modelica Language Specification 3.5, sections 6.4 and 7.3).
--
-- Each is asked, the outermost source first, also one that a source further out replaces. It redeclares a class by a class or a component by
-- a component, or rule 13 is broken; a replaceable element, or rule 24; and its class is compatible with that of the constraining clause, or
-- with the declared class where there is none, or rule 25 is broken.
use Rattle.std.specs.Prelude.{ℕ, Bool, false, ◌&&◌, List, [], ◌∷◌, Option, Some, None, Ok, is_some, if◌then◌else◌}
use Rattle.std.specs.List.{list_all}
use Rattle.mo_syntax.specs.Outcome.{Outcome, and_then, breaks}
use Rattle.mo_syntax.specs.declared.class.ComponentOf.{ComponentOf}
use Rattle.mo_syntax.specs.declared.class.Give.{Give}
use Rattle.mo_syntax.specs.declared.place.Place.{Place}
use Rattle.mo_scope.specs.Rows.{Table, Constraint, is_class, class_number, component_of, place_eq}
use Rattle.mo_scope.specs.Frames.{Frame, Scope, Member, sources_of, looked_up}
use Rattle.mo_scope.specs.Parts.{Redeclaration, redeclarations, with_list}
use Rattle.mo_scope.specs.Lookup.{Walked, asking_of, class_named, members_in, named}
use Rattle.mo_scope.specs.Names.{scope_of_home, walk_of}
use Rattle.mo_scope.specs.Compatible.{bool_eq, compatible}
use Rattle.mo_scope.specs.Spoken.{Spoken, spoken_in}
use Rattle.mo_syntax.specs.declared.rules.TheConstants.{WRONG_REPLACEABLE, WRONG_KIND_OF_NAME}

abbrev pub Checked : Type 0
Checked = Outcome (Unit {0})

abbrev pub fine : Checked
fine = Ok tt

-- each of these in turn
abbrev pub each_checked : {A : Type 0} → (A → Checked) → List A → Checked
each_checked check [] = fine
each_checked check (x ∷ xs) = and_then (check x) (λ _. each_checked check xs)

-- ---- replaceable elements

-- the redeclarations that stand behind the one at that place
abbrev pub further_in : Place → List Redeclaration → List Redeclaration
further_in place [] = []
further_in place (redeclaration ∷ others) = if place_eq redeclaration.place place then others else further_in place others

-- An element is replaceable by its declaration, until a redeclaration without `replaceable` ends that.
abbrev pub is_replaceable_for : Table → Member → Redeclaration → Bool
is_replaceable_for table member redeclaration =
    member.declares.flags.replaceable
    && list_all (λ other. other.keeps) (further_in redeclaration.place (redeclarations table (sources_of member.home) member.name []))

-- ---- the two classes

-- the class that a component's type names
abbrev pub type_named : Table → Scope → Option (ComponentOf Give) → Outcome Frame
type_named table scope None = Ok scope.frame
type_named table scope (Some component) = and_then (class_named table (asking_of table) false scope component.base) (λ class. Ok class.frame)

-- The new class. The modifiers of a short class are its one source.
abbrev pub new_class : Table → Redeclaration → Outcome Frame
new_class table redeclaration =
    if is_class redeclaration.declares then
    Ok (looked_up (class_number redeclaration.declares) (with_list redeclaration.source redeclaration.declares.own) redeclaration.source.scope.frame)
    else type_named table redeclaration.source.scope (component_of redeclaration.declares)

-- the class that is declared
abbrev pub declared_class : Table → Member → Outcome Frame
declared_class table member =
    if is_class member.declares then Ok (looked_up (class_number member.declares) [] member.home) else
    type_named table (scope_of_home member) (component_of member.declares)

-- the class of the constraining clause, else the declared one
abbrev pub constraining_class : Table → Member → Outcome Frame
constraining_class table member = class_by member.declares.limit
  where
    class_by : Option Constraint → Outcome Frame
    class_by None = declared_class table member
    class_by (Some limit) = and_then (class_named table (asking_of table) false (scope_of_home member) limit.class) (λ class. Ok class.frame)

-- ---- the checks

abbrev pub redeclaration_checked : Table → Member → Redeclaration → Checked
redeclaration_checked table member redeclaration =
    if bool_eq (is_class redeclaration.declares) (is_class member.declares) then
    (if is_replaceable_for table member redeclaration then
    and_then (new_class table redeclaration) (λ new.
    and_then (constraining_class table member) (compatible table redeclaration.place new))
    else breaks WRONG_REPLACEABLE redeclaration.place)
    else breaks WRONG_KIND_OF_NAME redeclaration.place

-- An attribute of a leaf type is not replaceable. An element of another base is asked there.
abbrev pub redeclaration_in : Table → Walked → List ℕ → Redeclaration → Checked
redeclaration_in table walked name redeclaration = checked_by (named name (members_in walked))
  where
    checked_by : Option Member → Checked
    checked_by (Some member) = redeclaration_checked table member redeclaration
    checked_by None = if is_some walked.leaf then breaks WRONG_REPLACEABLE redeclaration.place else fine

abbrev pub spoken_checked : Table → Walked → Spoken → Checked
spoken_checked table walked spoken = each_checked (redeclaration_in table walked spoken.name) spoken.redeclares

-- all redeclarations of a frame, whose elements are these
abbrev pub redeclarations_checked : Table → Walked → Frame → Checked
redeclarations_checked table walked frame = each_checked (spoken_checked table walked) (spoken_in table (sources_of frame))

abbrev pub redeclared_checked : Table → Frame → Checked
redeclared_checked table frame = and_then (walk_of table frame) (λ walked. redeclarations_checked table walked frame)
