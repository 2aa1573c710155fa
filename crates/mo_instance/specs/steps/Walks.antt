-- Elements with the bases on the way to them, as the values of the code are data.
use Rattle.std.specs.Prelude.{ℕ, Bool, ◌&&◌, not, List, map, Option, Some, None}
use Rattle.std.specs.Str.{bytes_eq}
use Rattle.mo_scope.specs.Frames.{Frame}
use Rattle.mo_scope.specs.Lookup.{Walked}
use Rattle.mo_scope.specs.Sights.{member_seen}
use Rattle.mo_scope.specs.Sizes.{is_nothing}
use Rattle.mo_scope.specs.Worlds.{World, MemberEntry}
use Rattle.mo_names.specs.declared.walk.Inherited.{Inherited as InheritedAt}
use Rattle.mo_names.specs.declared.walk.Walk.{Walk}
use Rattle.mo_names.specs.Sights.{IsWalk, walk_seen}

abbrev pub walk_or_none : List Frame → Option Walk → Option Walked
walk_or_none frames None = None
walk_or_none frames (Some walk) = Some (walk_seen frames walk)

abbrev pub IsWalkOrNone : World → Option Walk → Type 0
IsWalkOrNone world None = Unit {0}
IsWalkOrNone world (Some walk) = IsWalk world walk

-- the elements as a table holds them
abbrev pub members_held : List InheritedAt → List MemberEntry
members_held members = map (λ inherited. member_seen inherited.member) members

-- whether an element with base frames on the way to it has the name
abbrev pub inherits_name : List ℕ → InheritedAt → Bool
inherits_name name inherited = not (is_nothing inherited.through) && bytes_eq inherited.member.name.now name
