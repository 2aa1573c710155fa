-- Frames with no sources, no path and no owner.
use Rattle.std.specs.Prelude.{◌≡◌, ℕ, ◌&&◌, Bool, true, false, List, [], ◌∷◌, Option, Some, None, IsSome, nat_eq, slice_get, if◌then◌else◌}
use Rattle.std.specs.Option.{option_eq}
use Rattle.std.specs.HashMap.{get}
use Rattle.mo_scope.specs.declared.entered.Around.{Around}
use Rattle.mo_scope.specs.declared.entered.Entered.{Entered}
use Rattle.mo_scope.specs.Frames.{Indexed}
use Rattle.mo_scope.specs.Worlds.{FrameEntry, SourceEntry}

-- a class that is only looked up, in a frame around it
abbrev pub bare_entry : ℕ → Option ℕ → FrameEntry
bare_entry class outer = record { class = class; sources = []; outer = outer; at = None; owner = None }

abbrev pub is_bare : FrameEntry → Bool
is_bare entry = no_sources entry.sources && no_path entry.at && no_owner entry.owner
  where
    no_sources : List SourceEntry → Bool
    no_sources [] = true
    no_sources (source ∷ sources) = false

    no_path : Option Indexed → Bool
    no_path None = true
    no_path (Some path) = false

    no_owner : Option ℕ → Bool
    no_owner None = true
    no_owner (Some n) = false

abbrev pub is_around : ℕ → Option ℕ → ℕ → Option ℕ → Bool
is_around class outer c o = nat_eq class c && option_eq nat_eq outer o

abbrev pub around_eq : Around → Around → Bool
around_eq a b = is_around a.class a.outer b.class b.outer

-- the frame that is held for a class and the frame around it
abbrev pub entered_held : Entered → ℕ → Option ℕ → Option ℕ
entered_held entered class outer = get around_eq entered.frames (record { class = class; outer = outer })

-- what was held is held, and where it is bare that frame for that class and the frame around it
abbrev pub HoldsAlso : (old new : Entered) → (bare : Bool) → (class : ℕ) → (outer : Option ℕ) → (frame : ℕ) → Type 0
HoldsAlso old new bare class outer frame =
    (c : ℕ) (o : Option ℕ) → entered_held new c o ≡ (if bare && is_around class outer c o then Some frame else entered_held old c o)

-- For a class and the frame around it such an entry is held, where there is one.
pub record AreEntered (entries : List FrameEntry) (held : ℕ → Option ℕ → Option ℕ) : Type 0 where
  pub sound : (class : ℕ) (outer : Option ℕ) (n : ℕ) → held class outer ≡ Some n → slice_get entries n ≡ Some (bare_entry class outer)
  pub whole : (class : ℕ) (outer : Option ℕ) (n : ℕ) → slice_get entries n ≡ Some (bare_entry class outer) → IsSome (held class outer)
