-- What the calls that look names up, and those that enter elements, answer in a world.
use Rattle.std.specs.Prelude.{◌≡◌, ℕ, Bool, List, Option, Some, Result, option_map, slice_get}
use Rattle.mo_syntax.specs.Outcome.{Outcome}
use Rattle.mo_syntax.specs.declared.expr.Expr.{Expr}
use Rattle.mo_syntax.specs.declared.expr.ReferenceOf.{ReferenceOf}
use Rattle.mo_syntax.specs.declared.meaning.FrameId.{FrameId}
use Rattle.mo_syntax.specs.declared.place.Place.{Place}
use Rattle.mo_syntax.specs.declared.place.Stop.{Stop}
use Rattle.mo_scope.specs.declared.row.Member.{Member as MemberAt}
use Rattle.mo_scope.specs.declared.source.ScopeAt.{ScopeAt}
use Rattle.mo_scope.specs.Frames.{Frame, Member}
use Rattle.mo_scope.specs.Lookup.{Found, Reached, asking_of, named, own_members, reached}
use Rattle.mo_scope.specs.Names.{Child, base_frame_of, child_of, child_of_member, clauses_of, component_frame, elements_of, found_path, inner_of, component_entered}
use Rattle.mo_scope.specs.Outcome.{Gives}
use Rattle.mo_scope.specs.Rows.{Clause}
use Rattle.mo_scope.specs.Sights.{member_at, scope_at}
use Rattle.mo_scope.specs.Worlds.{World, frame_at, table_in}
use Rattle.mo_names.specs.declared.found.Child.{Child as ChildAt}
use Rattle.mo_names.specs.declared.found.Found.{Found as FoundAt}
use Rattle.mo_names.specs.Children.{child_at, first_declared, first_found, next_found}
use Rattle.mo_names.specs.Sights.{found_at}

-- ---- elements and bases of a frame

-- its elements, inherited and own
abbrev pub elements_of_frame : World → ℕ → Outcome (List Member)
elements_of_frame world frame = elements_of (table_in world) (frame_at world frame)

-- the first of the elements that its class declares itself with that name
abbrev pub IsOwnNamed : World → ℕ → List ℕ → Option MemberAt → Type 0
IsOwnNamed world frame name found = option_map (member_at world) found ≡ named name (own_members (table_in world) (frame_at world frame))

-- what a name finds among all its elements
abbrev pub reached_in : World → (ask : Place) → ℕ → List ℕ → Outcome Reached
reached_in world ask frame name = reached (table_in world) (asking_of (table_in world)) ask (frame_at world frame) name

-- the answer is the frame of the base that its extends clause with that number names
abbrev pub GivesBase : (old new : World) → (frame clause : ℕ) → Result FrameId Stop → Type 0
GivesBase old new frame clause result =
    (extends : Clause) → slice_get (clauses_of (table_in old) (frame_at old frame)) clause ≡ Some extends →
    Gives (λ base. frame_at new base.0) result (base_frame_of (table_in old) (frame_at old frame) extends)

-- ---- children

-- an element, entered at an index
abbrev pub element_child_at : World → MemberAt → (index : List ℕ) → Outcome Child
element_child_at world member index = child_of_member (table_in world) (member_at world member) index

-- the element of a frame with that name, entered at an index
abbrev pub named_child_at : World → ℕ → (name index : List ℕ) → Outcome Child
named_child_at world frame name index = child_of (table_in world) (frame_at world frame) name index

-- the frame in the new world is that of a component, entered at an index, whose child the old one has
abbrev pub IsComponentFrame : (old new : World) → MemberAt → (index : List ℕ) → ChildAt → FrameId → Type 0
IsComponentFrame old new member index child frame = frame_at new frame.0 ≡ component_frame (member_at old member) index (child_at old child)

-- the frame of a component, entered at an index
abbrev pub component_entered_at : World → MemberAt → (index : List ℕ) → Outcome Frame
component_entered_at world member index = component_entered (table_in world) (member_at world member) index

-- the inner component of an outer one, with the frame among whose elements it is
abbrev pub inner_component_at : World → (ask : Place) → MemberAt → Outcome (Frame × Member)
inner_component_at world ask outer = inner_of (table_in world) ask (member_at world outer)

-- ---- names in a scope

-- what the first identifier of a name finds in an expression; a leading dot starts at the top
abbrev pub first_found_at : World → (top : Bool) → ScopeAt → List ℕ → Place → Outcome Found
first_found_at world top at name place = first_found (table_in world) top (scope_at world at) name place

-- what it finds as it is declared
abbrev pub first_declared_at : World → (top : Bool) → ScopeAt → List ℕ → Place → Outcome Found
first_declared_at world top at name place = first_declared (table_in world) top (scope_at world at) name place

-- what one more identifier finds behind a dot
abbrev pub next_found_at : World → FoundAt → List ℕ → Place → Outcome Found
next_found_at world found name place = next_found (table_in world) (found_at world found) name place

-- what a whole name finds
abbrev pub found_path_at : World → ScopeAt → ReferenceOf Expr → (class_wanted : Bool) → Outcome Found
found_path_at world at path class_wanted = found_path (table_in world) (scope_at world at) path class_wanted
