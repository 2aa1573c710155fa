-- The classes that names find.
use Rattle.std.specs.Prelude.{◌≡◌, ℕ, Bool, true, false, List, Some, Ok}
use Rattle.mo_syntax.specs.declared.meaning.FrameId.{FrameId}
use Rattle.mo_syntax.specs.declared.place.Place.{Place}
use Rattle.mo_scope.specs.declared.found_classes.AskedName.{AskedName}
use Rattle.mo_scope.specs.declared.found_classes.FoundClass.{FoundClass}
use Rattle.mo_scope.specs.Kept.{IsHeld, OldOr}
use Rattle.mo_scope.specs.Lookup.{Class, asking_at, behind_class, found_from}
use Rattle.mo_scope.specs.Worlds.{World, IsFrame, frame_at, table_in}

-- Asked for at that place, the name finds that class: behind the class of the frame, where a component would break rule 13 there; or outwards
-- from the frame.
abbrev pub FindsClass : World → (behind : Bool) (left : ℕ) (busy : List ℕ) (frame : ℕ) → Place → List ℕ → (class : ℕ) (replaceable : Bool) → Type 0
FindsClass world true left busy frame place name class replaceable =
    behind_class (table_in world) (asking_at (table_in world) left busy) place place (Some place) (frame_at world frame) name ≡ Ok (Class (frame_at world class) replaceable)
FindsClass world false left busy frame place name class replaceable =
    found_from (table_in world) (asking_at (table_in world) left busy) false false (frame_at world frame) place name
    ≡ Ok (record { found = Class (frame_at world class) replaceable; near = false })

-- it is what was found for that name
pub record IsAskedSo (class : FoundClass) (asked : AskedName) : Type 0 where
  pub behind : class.behind ≡ asked.behind
  pub frame : class.frame.0 ≡ asked.frame.0
  pub left : class.left ≡ asked.left
  pub file : class.place.file ≡ asked.place.file
  pub byte : class.place.byte ≡ asked.place.byte
  pub busy : class.busy ≡ asked.busy.now
  pub name : class.name ≡ asked.name.now

-- it is this class, found for that name
pub record IsMade (made : FoundClass) (asked : AskedName) (class : FrameId) (replaceable : Bool) : Type 0 where
  pub so : IsAskedSo made asked
  pub finds : made.class ≡ class
  pub kind : made.replaceable ≡ replaceable

-- nothing else is held than before but this class, found for that name
abbrev pub OldOrMade : (old new : List FoundClass) → AskedName → FrameId → Bool → Type 0
OldOrMade old new asked class replaceable = OldOr old new (λ held. IsMade held asked class replaceable)

-- the name that it was found for finds that class, and both frames exist
pub record IsFoundClass (world : World) (found : FoundClass) : Type 0 where
  pub frame : IsFrame world found.frame.0
  pub class : IsFrame world found.class.0
  pub finds : FindsClass world found.behind found.left found.busy found.frame.0 found.place found.name found.class.0 found.replaceable

abbrev pub AreFound : World → List FoundClass → Type 0
AreFound world classes = (found : FoundClass) → IsHeld classes found → IsFoundClass world found
