-- What the values of the code are as data, and when the frames in them exist.
use Rattle.std.specs.Prelude.{◌≡◌, ℕ, ◌<◌, List, length, map, reverse, Option, Some, None, is_some, option_map}
use Rattle.std.specs.List.{list_any}
use Rattle.std.specs.Str.{bytes_eq}
use Rattle.mo_syntax.specs.declared.meaning.FrameId.{FrameId}
use Rattle.mo_scope.specs.declared.row.Member.{Member as MemberAt}
use Rattle.mo_scope.specs.Rows.{Table, class_number, number_of_classes}
use Rattle.mo_scope.specs.Frames.{Frame, Member}
use Rattle.mo_scope.specs.Lookup.{Found, Component, Class, Literal, Iteration, Function, Time, Reached, Element, Other, Absent, Met, Classed, Inherited, Walked, Asking, asking_at}
use Rattle.mo_scope.specs.ByName.{place_held}
use Rattle.mo_scope.specs.declared.names.Names.{Names}
use Rattle.mo_scope.specs.Places.{Every}
use Rattle.mo_scope.specs.Sights.{member_seen, declares_seen}
use Rattle.mo_scope.specs.Own.{IsOwnElement}
use Rattle.mo_scope.specs.Worlds.{World, IsFrame, frame_in, frames_of, member_in, table_in}
use Rattle.mo_names.specs.declared.found.Ask.{Ask}
use Rattle.mo_names.specs.declared.found.Classed.{Classed as ClassedAt}
use Rattle.mo_names.specs.declared.found.Found.{Found as FoundAt}
use Rattle.mo_names.specs.declared.found.Found.TheVariants.{Component as component_at, Class as class_at, Literal as literal_at, Iteration as iteration_at, Function as function_at, Time as time_at}
use Rattle.mo_names.specs.declared.found.Met.{Met as MetAt}
use Rattle.mo_names.specs.declared.found.Reached.{Reached as ReachedAt}
use Rattle.mo_names.specs.declared.found.Reached.TheVariants.{Element as element_at, Other as other_at, Absent as absent_at}
use Rattle.mo_names.specs.declared.join.Added.{Added}
use Rattle.mo_names.specs.declared.walk.Inherited.{Inherited as InheritedAt}
use Rattle.mo_names.specs.declared.walk.Walk.{Walk}

-- ---- what they are, where frames have these numbers

abbrev pub member_of : List Frame → MemberAt → Member
member_of frames member = member_in frames (member_seen member)

abbrev pub found_in : List Frame → FoundAt → Found
found_in frames (component_at frame member) = Component (frame_in frames frame.0) (member_of frames member)
found_in frames (class_at frame replaceable) = Class (frame_in frames frame.0) replaceable
found_in frames (literal_at class place) = Literal class.0 place
found_in frames (iteration_at value) = Iteration value
found_in frames (function_at code) = Function code
found_in frames time_at = Time

abbrev pub reached_seen : List Frame → ReachedAt → Reached
reached_seen frames (element_at member) = Element (member_of frames member)
reached_seen frames (other_at found) = Other (found_in frames found)
reached_seen frames absent_at = Absent

abbrev pub met_seen : List Frame → MetAt → Met
met_seen frames met = record { found = found_in frames met.found; near = met.near }

abbrev pub classed_seen : List Frame → ClassedAt → Classed
classed_seen frames class = record { frame = frame_in frames class.frame.0; replaceable = class.replaceable }

-- base frames are held the innermost first
abbrev pub frames_through : List Frame → List FrameId → List Frame
frames_through frames through = reverse (map (λ frame. frame_in frames frame.0) through)

abbrev pub inherited_seen : List Frame → InheritedAt → Inherited
inherited_seen frames inherited = record { member = member_of frames inherited.member; through = frames_through frames inherited.through }

abbrev pub walk_seen : List Frame → Walk → Walked
walk_seen frames walk = record {
  members = map (inherited_seen frames) walk.members;
  bases = map (frames_through frames) walk.bases;
  sections = map (frames_through frames) walk.sections;
  leaf = option_map (λ frame. frame_in frames frame.0) walk.leaf;
}

-- ---- what they are in a world, whose frames have the numbers

abbrev pub found_at : World → FoundAt → Found
found_at world = found_in (frames_of world)

abbrev pub walk_at : World → Walk → Walked
walk_at world = walk_seen (frames_of world)

-- ---- what exists

-- the frame whose class declares the element, the class that it declares, and which of the elements of that frame's class it is
pub record IsMember (world : World) (member : MemberAt) : Type 0 where
  pub home : IsFrame world member.home.0
  pub class : class_number (declares_seen member.declares) < number_of_classes (table_in world)
  pub own : IsOwnElement (table_in world) (member_of (frames_of world) member)

abbrev pub IsFound : World → FoundAt → Type 0
IsFound world (component_at frame member) = IsFrame world frame.0 × IsMember world member
IsFound world (class_at frame replaceable) = IsFrame world frame.0
IsFound world found = Unit {0}

abbrev pub IsReached : World → ReachedAt → Type 0
IsReached world (element_at member) = IsMember world member
IsReached world (other_at found) = IsFound world found
IsReached world absent_at = Unit {0}

abbrev pub AreThrough : World → List FrameId → Type 0
AreThrough world through = Every (λ frame. IsFrame world frame.0) through

-- a base frame with those on the way to it
pub record IsBase (world : World) (through : List FrameId) : Type 0 where
  pub frames : AreThrough world through
  pub some : 0 < length through

pub record IsInherited (world : World) (inherited : InheritedAt) : Type 0 where
  pub member : IsMember world inherited.member
  pub through : AreThrough world inherited.through

abbrev pub IsLeaf : World → Option FrameId → Type 0
IsLeaf world None = Unit {0}
IsLeaf world (Some frame) = IsFrame world frame.0

-- the names that have a place are those of these elements
abbrev pub AreNames : List InheritedAt → Names → Type 0
AreNames members names = (name : List ℕ) → is_some (place_held names name) ≡ list_any (λ inherited. bytes_eq inherited.member.name.now name) members

pub record IsWalk (world : World) (walk : Walk) : Type 0 where
  pub members : Every (IsInherited world) walk.members
  pub bases : Every (IsBase world) walk.bases
  pub sections : Every (IsBase world) walk.sections
  pub leaf : IsLeaf world walk.leaf
  pub names : AreNames walk.members walk.names.value

-- what a base adds
abbrev pub added_seen : List Frame → Added → Walked
added_seen frames added = record {
  members = map (inherited_seen frames) added.members;
  bases = map (frames_through frames) added.bases;
  sections = map (frames_through frames) added.sections;
  leaf = option_map (λ frame. frame_in frames frame.0) added.leaf;
}

pub record IsAdded (world : World) (added : Added) : Type 0 where
  pub members : Every (IsInherited world) added.members
  pub bases : Every (IsBase world) added.bases
  pub sections : Every (IsBase world) added.sections
  pub leaf : IsLeaf world added.leaf

-- ---- asking

-- what the elements of frames are, while these classes are having their bases found and so many are not
abbrev pub asks : Table → Ask → Asking
asks table ask = asking_at table ask.left ask.busy.now
