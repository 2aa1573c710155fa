-- Children, inner components and what is behind a component, as the values of the code are data.
use Rattle.std.specs.Prelude.{ℕ, Bool, false, List, [], map, find, option_map, Option, Some, None, IfSome, Ok, if◌then◌else◌}
use Rattle.mo_syntax.specs.Outcome.{Outcome, and_then, breaks}
use Rattle.mo_syntax.specs.declared.class.ComponentOf.{ComponentOf}
use Rattle.mo_syntax.specs.declared.class.Give.{Give}
use Rattle.mo_syntax.specs.declared.meaning.FrameId.{FrameId}
use Rattle.mo_syntax.specs.declared.expr.Expr.{Expr}
use Rattle.mo_syntax.specs.declared.expr.PartOf.{PartOf}
use Rattle.mo_syntax.specs.declared.place.Place.{Place}
use Rattle.mo_scope.specs.declared.row.Member.{Member as MemberAt}
use Rattle.mo_scope.specs.Rows.{Table, component_of, is_class}
use Rattle.mo_scope.specs.Calls.{HasScope}
use Rattle.mo_scope.specs.Frames.{Frame, Scope, Member, sources_of}
use Rattle.mo_scope.specs.Lookup.{Found, Component, Inherited, Reached, Element, asking_of, behind_class, class_named, entered, reached}
use Rattle.mo_scope.specs.Names.{Child, behind_found, component_entered, is_inner_for, scope_of_home, stands_for, taken}
use Rattle.mo_scope.specs.Parts.{Redeclaration, class_sources, component_sources, redeclared}
use Rattle.mo_scope.specs.Sights.{declares_seen, redeclaration_in, source_seen}
use Rattle.mo_scope.specs.Worlds.{World, AreFrames, IsFrame, frame_in, frames_of, sources_in}
use Rattle.mo_names.specs.declared.found.Child.{Child as ChildAt}
use Rattle.mo_names.specs.Past.{first_met}
use Rattle.mo_names.specs.Sights.{IsMember, member_of}
use Rattle.mo_syntax.specs.declared.rules.TheConstants.{WRONG_KIND_OF_NAME, PROTECTED_ELEMENT, NAME_NOT_FOUND}

-- ---- what they are, where frames have these numbers

abbrev pub child_seen : List Frame → ChildAt → Child
child_seen frames child = record {
  declares = declares_seen child.declares;
  redeclared = option_map (redeclaration_in frames) child.redeclared;
  class = frame_in frames child.class.0;
  sources = sources_in frames (map source_seen child.sources);
}

-- a child in a world, whose frames have the numbers
abbrev pub child_at : World → ChildAt → Child
child_at world = child_seen (frames_of world)

-- a component with the frame among whose elements it is
abbrev pub component_seen : List Frame → FrameId × MemberAt → Frame × Member
component_seen frames component = (frame_in frames component.0.0, member_of frames component.1)

-- ---- what exists

-- the class of a child, and the frames of its sources and of the source that redeclares it
pub record IsChild (world : World) (child : ChildAt) : Type 0 where
  pub class : IsFrame world child.class.0
  pub sources : AreFrames world (map source_seen child.sources)
  pub redeclared : IfSome child.redeclared (HasScope world)

abbrev pub IsComponent : World → FrameId × MemberAt → Type 0
IsComponent world component = IsFrame world component.0.0 × IsMember world component.1

-- ---- steps of a path

-- what the first identifier of a name finds in an expression; a leading dot starts at the top
abbrev pub first_found : Table → (top : Bool) → Scope → List ℕ → Place → Outcome Found
first_found table top scope name place =
    and_then (first_met table (asking_of table) false top scope place name) (λ met. taken table met.near place met.found)

-- what it finds as it is declared: a component need be no constant, and one that is declared `outer` stands for itself
abbrev pub first_declared : Table → (top : Bool) → Scope → List ℕ → Place → Outcome Found
first_declared table top scope name place = and_then (first_met table (asking_of table) false top scope place name) (λ met. Ok met.found)

-- an identifier without subscripts
abbrev pub identifier : List ℕ → Place → PartOf Expr
identifier name place = record { name = name; place = place; subs = [] }

-- what one more identifier finds behind a dot
abbrev pub next_found : Table → Found → List ℕ → Place → Outcome Found
next_found table found name place = behind_found table found (identifier name place)

-- ---- steps of children

-- the class of the type that a redeclaration gives; a class in its place breaks rule 13
abbrev pub type_redeclared : Table → Redeclaration → Outcome Frame
type_redeclared table redeclaration = type_in (component_of redeclaration.declares)
  where
    type_in : Option (ComponentOf Give) → Outcome Frame
    type_in None = breaks WRONG_KIND_OF_NAME redeclaration.place
    type_in (Some component) =
        and_then (class_named table (asking_of table) false redeclaration.source.scope component.base) (λ class. Ok class.frame)

-- the class of the type that a component declares
abbrev pub type_declared : Table → Member → ComponentOf Give → Outcome Frame
type_declared table member component =
    and_then (class_named table (asking_of table) false (scope_of_home member) component.base) (λ class. Ok class.frame)

abbrev pub type_by : Table → Member → ComponentOf Give → Option Redeclaration → Outcome Frame
type_by table member component None = type_declared table member component
type_by table member component (Some redeclaration) = type_redeclared table redeclaration

-- a component, entered at an index
abbrev pub component_child : Table → Member → List ℕ → ComponentOf Give → Outcome Child
component_child table member index component =
    and_then (type_by table member component wins) (λ class.
    Ok (record { declares = member.declares; redeclared = wins; class = class; sources = component_sources table member index class }))
  where
    wins : Option Redeclaration
    wins = redeclared table (sources_of member.home) member.name index

-- a class, entered at an index
abbrev pub class_child : Table → Member → List ℕ → Outcome Child
class_child table member index =
    and_then (entered table member) (λ class.
    Ok (record {
      declares = member.declares;
      redeclared = redeclared table (sources_of member.home) member.name index;
      class = class;
      sources = class_sources table member;
    }))

-- ---- steps of lookup

-- the first of some elements that is the inner one for an outer component
abbrev pub first_inner : Member → List Inherited → Option Member
first_inner outer members = find (is_inner_for outer) (map (λ inherited. inherited.member) members)

-- the inner component among the elements of a frame
abbrev pub inner_in_frame : Table → (ask : Place) → Member → Frame → Outcome (Option Member)
inner_in_frame table ask outer frame =
    and_then ((asking_of table).elements ask frame) (λ walked. Ok (first_inner outer walked.members))

-- a part of a component; a class breaks rule 13, and a protected element rule 17
abbrev pub found_in_component : Table → Place → Frame → Member → Outcome Found
found_in_component table place frame part =
    if is_class part.declares then breaks WRONG_KIND_OF_NAME place else
    (if part.hidden then breaks PROTECTED_ELEMENT place else stands_for table place (Component frame part))

-- what a name finds in the frame of a component; absent is rule 12
abbrev pub reached_in_component : Table → Place → Frame → List ℕ → Outcome Found
reached_in_component table place frame name = and_then (reached table (asking_of table) place frame name) found_at
  where
    found_at : Reached → Outcome Found
    found_at (Element part) = found_in_component table place frame part
    found_at other = breaks NAME_NOT_FOUND place

-- what a name finds in a component, which is entered
abbrev pub component_next : Table → Place → Member → List ℕ → Outcome Found
component_next table place member name = and_then (component_entered table member []) (λ frame. reached_in_component table place frame name)

-- what stands behind a class in an expression
abbrev pub class_next : Table → Frame → List ℕ → Place → Outcome Found
class_next table frame name place =
    and_then (behind_class table (asking_of table) place place None frame name) (taken table false place)
