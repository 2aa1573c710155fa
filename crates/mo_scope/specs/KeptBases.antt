-- The frames that bases are entered as.
use Rattle.std.specs.Prelude.{◌≡◌, ◌⊎◌, ℕ, ◌&&◌, Bool, Option, Some, nat_eq, slice_get}
use Rattle.std.specs.HashMap.{get}
use Rattle.mo_scope.specs.declared.entered_bases.BaseKey.{BaseKey}
use Rattle.mo_scope.specs.declared.entered_bases.EnteredBases.{EnteredBases}
use Rattle.mo_scope.specs.Lookup.{base_frame}
use Rattle.mo_scope.specs.Rows.{Row, Clause, Base_of}
use Rattle.mo_scope.specs.Worlds.{World, IsFrame, frame_at, row_of_frame}

abbrev pub is_base_key : (frame at class : ℕ) → (f p c : ℕ) → Bool
is_base_key frame at class f p c = nat_eq frame f && (nat_eq at p && nat_eq class c)

abbrev pub base_key_eq : BaseKey → BaseKey → Bool
base_key_eq a b = is_base_key a.frame a.at a.class b.frame b.at b.class

-- The base that is held for a frame, a place among the parts of its class, and the frame that the class of the base was found as.
abbrev pub base_held : EnteredBases → (frame at class : ℕ) → Option ℕ
base_held entered frame at class = get base_key_eq entered.bases (record { frame = frame; at = at; class = class })

-- it is that base, held for these
pub record IsThatBase (frame at class base : ℕ) (f p c b : ℕ) : Type 0 where
  pub same_frame : f ≡ frame
  pub same_place : p ≡ at
  pub same_class : c ≡ class
  pub same_base : b ≡ base

-- nothing else is held than before but that base, for these
abbrev pub OldOrBase : (old new : (frame at class : ℕ) → Option ℕ) → (frame at class base : ℕ) → Type 0
OldOrBase old new frame at class base = (f p c b : ℕ) → new f p c ≡ Some b → (old f p c ≡ Some b) ⊎ IsThatBase frame at class base f p c b

-- The extends clause that stands there among the parts of that frame's class is entered as that base, where its class was found as that frame.
abbrev pub EntersBase : World → (frame at class base : ℕ) → Type 0
EntersBase world frame at class base =
    (row : Row) (clause : Clause) → row_of_frame world frame ≡ Some row → slice_get row.parts at ≡ Some (Base_of clause) →
    base_frame (frame_at world frame) row clause (frame_at world class) ≡ frame_at world base

-- it is entered as that base, and the three frames exist
pub record IsEnteredBase (world : World) (frame at class base : ℕ) : Type 0 where
  pub frame_is : IsFrame world frame
  pub class_is : IsFrame world class
  pub base_is : IsFrame world base
  pub enters : EntersBase world frame at class base

abbrev pub AreEnteredBases : World → ((frame at class : ℕ) → Option ℕ) → Type 0
AreEnteredBases world held = (frame at class base : ℕ) → held frame at class ≡ Some base → IsEnteredBase world frame at class base
