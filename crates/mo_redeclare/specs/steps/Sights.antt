-- What the values of the code are as data, and when the frames in them exist.
use Rattle.std.specs.Prelude.{ℕ, ◌<◌, Bool, ◌&&◌, not, List}
use Rattle.mo_scope.specs.declared.saying.Redeclaration.{Redeclaration as RedeclarationAt}
use Rattle.mo_scope.specs.Frames.{Frame}
use Rattle.mo_scope.specs.Own.{IsOwnElement}
use Rattle.mo_scope.specs.Parts.{Redeclaration}
use Rattle.mo_scope.specs.Rows.{class_number, is_class, number_of_classes}
use Rattle.mo_scope.specs.Sights.{declares_seen, member_seen, redeclaration_in}
use Rattle.mo_scope.specs.Worlds.{World, MemberEntry, IsFrame, frames_of, member_in, table_in}
use Rattle.mo_names.specs.declared.walk.Inherited.{Inherited}
use Rattle.mo_redeclare.specs.declared.spoken.Named.{Named}

-- the class that a redeclaration declares exists, and so does the frame of its scope
pub record IsRedeclaration (world : World) (redeclaration : RedeclarationAt) : Type 0 where
  pub class : class_number (declares_seen redeclaration.declares) < number_of_classes (table_in world)
  pub scope : IsFrame world redeclaration.source.scope.frame.0

-- a redeclaration with the name of its element
abbrev pub named_seen : List Frame → Named → List ℕ × Redeclaration
named_seen frames named = (named.name.now, redeclaration_in frames named.redeclaration)

abbrev pub IsNamed : World → Named → Type 0
IsNamed world named = IsRedeclaration world named.redeclaration

-- ---- elements that are kept by name

-- an element as a table keeps it
abbrev pub entry_of : Inherited → MemberEntry
entry_of inherited = member_seen inherited.member

-- a public component
abbrev pub is_open : MemberEntry → Bool
is_open member = not member.hidden && not (is_class member.declares)

-- the frame whose class declares the element, and the class that it declares, exist, and it is an element of that frame's class
pub record IsKept (world : World) (member : MemberEntry) : Type 0 where
  pub home : IsFrame world member.home
  pub class : class_number member.declares < number_of_classes (table_in world)
  pub own : IsOwnElement (table_in world) (member_in (frames_of world) member)
