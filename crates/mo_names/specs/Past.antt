-- The walk outwards, one frame after another.
use Rattle.std.specs.Prelude.{◌≡◌, ℕ, Bool, false, List, Option, Some, None, Ok, Err, IfOk, if◌then◌else◌}
use Rattle.mo_syntax.specs.Outcome.{Outcome, and_then}
use Rattle.mo_syntax.specs.declared.place.Place.{Place}
use Rattle.mo_syntax.specs.declared.place.Stop.TheVariants.{Broken as broken_by, NoMemory as no_memory}
use Rattle.mo_scope.specs.Rows.{Table}
use Rattle.mo_scope.specs.Frames.{Frame, Top, In, Scope, outer_of}
use Rattle.mo_scope.specs.Lookup.{Found, Met, Asking, first_at_top, or_absent, at_top, predefined, met_far, is_closed, found_by_name}
use Rattle.mo_scope.specs.Worlds.{World, IsFrame, frame_in}
use Rattle.mo_names.specs.declared.past.Next.{Next as NextAt}
use Rattle.mo_names.specs.declared.past.Next.TheVariants.{Ends as ends_at, Around as goes_on_at}
use Rattle.mo_names.specs.declared.past.Past.{Past as PastAt}
use Rattle.mo_names.specs.declared.past.Past.TheVariants.{Found as past_at, Around as around_at}
use Rattle.mo_names.specs.Sights.{IsFound, found_in, met_seen}

-- What is past a frame: what a name finds there, or the frame around it.
pub data Past : Type 0 where
  Found_past : Found → Past
  Around : Frame → Past

abbrev pub found_past : Outcome Found → Outcome Past
found_past outcome = and_then outcome (λ found. Ok (Found_past found))

abbrev pub past_outer : Table → Place → List ℕ → Frame → Outcome Past
past_outer table place name Top = found_past (or_absent place (at_top table name))
past_outer table place name (In class sources outer at owner) = Ok (Around (In class sources outer at owner))

abbrev pub past : Table → Place → Frame → List ℕ → Outcome Past
past table place frame name =
    if is_closed table frame then found_past (or_absent place (predefined name)) else past_outer table place name (outer_of frame)

-- Where the walk outwards goes from a frame: it ends with what is met, or goes on in the frame around it.
pub data Next : Type 0 where
  Ends : Met → Next
  Goes_on : Frame → Next

abbrev pub next_of : Past → Outcome Next
next_of (Found_past found) = Ok (Ends (record { found = found; near = false }))
next_of (Around frame) = Ok (Goes_on frame)

abbrev pub or_past : Outcome Past → Option Met → Outcome Next
or_past past (Some met) = Ok (Ends met)
or_past past None = and_then past next_of

-- the first identifier of a name at a place; a leading dot starts at the top
abbrev pub first_met : Table → Asking → (bare : Bool) → (top : Bool) → Scope → Place → List ℕ → Outcome Met
first_met table asking bare top scope place name =
    if top then met_far (first_at_top table place name) else found_by_name table asking bare scope place name

-- ---- what they are, where frames have these numbers

abbrev pub past_seen : List Frame → PastAt → Past
past_seen frames (past_at found) = Found_past (found_in frames found)
past_seen frames (around_at frame) = Around (frame_in frames frame.0)

abbrev pub IsPast : World → PastAt → Type 0
IsPast world (past_at found) = IsFound world found
IsPast world (around_at frame) = IsFrame world frame.0

abbrev pub IsNext : World → NextAt → Type 0
IsNext world (ends_at met) = IfOk met (λ met. IsFound world met.found)
IsNext world (goes_on_at frame) = IsFrame world frame.0

-- where it goes, as the outcome says; want of memory says nothing
abbrev pub GivesNext : List Frame → NextAt → Outcome Next → Type 0
GivesNext frames (ends_at (Ok met)) told = told ≡ Ok (Ends (met_seen frames met))
GivesNext frames (ends_at (Err (broken_by broken))) told = told ≡ Err broken
GivesNext frames (ends_at (Err no_memory)) told = Unit {0}
GivesNext frames (goes_on_at frame) told = told ≡ Ok (Goes_on (frame_in frames frame.0))
