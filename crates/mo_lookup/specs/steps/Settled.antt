-- Elements that are the same whichever classes are having their bases found, as long as those of a list are not.
use Rattle.std.specs.Prelude.{◌≡◌, ℕ, ◌≤◌, Bool, true, false, List, Ok}
use Rattle.mo_syntax.specs.Outcome.{Outcome}
use Rattle.mo_syntax.specs.declared.place.Place.{Place}
use Rattle.mo_scope.specs.Rows.{Table, row_at}
use Rattle.mo_scope.specs.Frames.{Frame, class_of}
use Rattle.mo_scope.specs.Lookup.{Asking, Walked, contains, walked, walked_class, with_base, asking_at}
use Rattle.mo_scope.specs.Places.{Every}
use Rattle.mo_scope.specs.Worlds.{World, IsFrame, frame_at, frames_of, table_in}
use Rattle.mo_lookup.specs.declared.owning.Owned.{Owned}
use Rattle.mo_lookup.specs.declared.settled.Settled.{Settled}
use Rattle.mo_lookup.specs.declared.settled.Settling.{Settling}
use Rattle.mo_names.specs.steps.Twins.{owned_by, owned_walk, unowned}
use Rattle.mo_names.specs.Sights.{IsAdded, added_seen, walk_seen}

-- ---- classes that are free

-- None of these classes is having its bases found, and so many classes may still have theirs found.
pub record AreFree (classes : List ℕ) (deep left : ℕ) (busy : List ℕ) : Type 0 where
  pub enough : deep ≤ left
  pub free : (class : ℕ) → contains classes class ≡ true → contains busy class ≡ false

-- what is told of each asking where they are free
abbrev pub ToldFree : {A : Type 0} → Table → (classes : List ℕ) → (deep : ℕ) → (Asking → Outcome A) → A → Type 0
ToldFree table classes deep told value = (left : ℕ) (busy : List ℕ) → AreFree classes deep left busy → told (asking_at table left busy) ≡ Ok value

-- the elements of a frame wherever they are free
abbrev pub WalkedFree : Table → (classes : List ℕ) → (deep : ℕ) → Frame → Walked → Type 0
WalkedFree table classes deep frame walk = (left : ℕ) (busy : List ℕ) (place : Place) → AreFree classes deep left busy → walked table left busy place frame ≡ Ok walk

-- The same of each frame that differs from one in its path and owner alone: its elements by those of this one.
abbrev pub OwnedFree : Table → (classes : List ℕ) → (deep : ℕ) → Frame → Walked → Type 0
OwnedFree table classes deep frame walk = (owned : Frame) → unowned owned ≡ frame → WalkedFree table classes deep owned (owned_walk owned walk)

abbrev pub ToldOwned : Table → (classes : List ℕ) → (deep : ℕ) → Frame → (Asking → Frame → Walked → Outcome Walked) → Walked → Walked → Type 0
ToldOwned table classes deep frame told so_far next =
    (owned : Frame) → unowned owned ≡ frame → ToldFree table classes deep (λ asking. told asking owned (owned_walk owned so_far)) (owned_walk owned next)

-- the elements of the class of each such frame
abbrev pub ClassOwned : Table → (classes : List ℕ) → (deep : ℕ) → Frame → Walked → Type 0
ClassOwned table classes deep frame walk =
    (owned : Frame) → unowned owned ≡ frame → ToldFree table classes deep (λ asking. walked_class table asking owned (row_at table (class_of owned))) (owned_walk owned walk)

abbrev pub AreMore : List ℕ → List ℕ → Type 0
AreMore more classes = (class : ℕ) → contains classes class ≡ true → contains more class ≡ true

-- ---- what is held

pub record IsSettled (world : World) (settled : Settled) : Type 0 where
  pub frame : IsFrame world settled.frame.0
  pub elements : IsAdded world settled.elements
  pub free : WalkedFree (table_in world) settled.classes settled.deep (frame_at world settled.frame.0) (added_seen (frames_of world) settled.elements)
  pub owned : settled.alike ≡ true → OwnedFree (table_in world) settled.classes settled.deep (frame_at world settled.frame.0) (added_seen (frames_of world) settled.elements)

abbrev pub AreSettled : World → List Settled → Type 0
AreSettled world known = Every (IsSettled world) known

-- a base of a frame that was entered as that of another
pub record IsOwned (world : World) (one : Owned) : Type 0 where
  pub around : IsFrame world one.around.0
  pub base : IsFrame world one.base.0
  pub frame : IsFrame world one.frame.0
  pub is : frame_at world one.frame.0 ≡ owned_by (frame_at world one.around.0) (frame_at world one.base.0)

abbrev pub AreOwned : World → List Owned → Type 0
AreOwned world made = Every (IsOwned world) made

-- What was gathered depends on no fewer classes than before, and is told of no other frames than before.
pub record IsFurther (before after : Settling) : Type 0 where
  pub classes : AreMore after.classes before.classes
  pub deep : before.deep ≤ after.deep
  pub alike : after.alike ≡ true → before.alike ≡ true

-- a base whose elements are known, put behind those before
pub record IsJoined (world : World) (hidden : Bool) (base : Frame) (before after : Settling) : Type 0 where
  pub walk : Walked
  pub free : WalkedFree (table_in world) after.classes after.deep base walk
  pub owned : after.alike ≡ true → OwnedFree (table_in world) after.classes after.deep base walk
  pub joined : with_base hidden base walk (walk_seen (frames_of world) before.walk) ≡ Ok (walk_seen (frames_of world) after.walk)
