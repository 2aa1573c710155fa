-- The sections of the classes of instances, and what comes of them so far.
use Rattle.std.specs.Prelude.{◌≡◌, ℕ, Bool, List, [], ◌∷◌, ◌++◌, flat_map, map, Result, Ok, Err}
use Rattle.mo_syntax.specs.Outcome.{Outcome, and_then}
use Rattle.mo_syntax.specs.declared.class.Body.{out-Body}
use Rattle.mo_syntax.specs.declared.class.Item.{Item}
use Rattle.mo_syntax.specs.declared.equation.EquationKind.{EquationKind}
use Rattle.mo_syntax.specs.declared.equation.EquationOf.{EquationOf}
use Rattle.mo_syntax.specs.declared.meaning.FrameId.{FrameId}
use Rattle.mo_syntax.specs.declared.place.Stop.{Stop}
use Rattle.mo_syntax.specs.declared.place.Stop.TheVariants.{Broken as broken_by, NoMemory as no_memory}
use Rattle.mo_scope.specs.Rows.{Table}
use Rattle.mo_scope.specs.Frames.{Frame}
use Rattle.mo_scope.specs.Instances.{Instance}
use Rattle.mo_scope.specs.Places.{Every}
use Rattle.mo_scope.specs.Worlds.{World, IsFrame, frame_at, frame_in, table_in}
use Rattle.mo_typing.specs.Outcome.{each}
use Rattle.mo_equations.specs.declared.desk.Desk.{Desk}
use Rattle.mo_equations.specs.declared.sections.Parts.{Parts as PartsAt}
use Rattle.mo_equations.specs.declared.sections.Placed.{Placed as PlacedAt}
use Rattle.mo_equations.specs.Expansion.{Parts, Placed, all_sections, made_placed, parts_of, sections_at}
use Rattle.mo_equations.specs.Gathering.{Made, Turning, all_beside, turn_each}
use Rattle.mo_equations.specs.Leaves.{Tree}
use Rattle.mo_equations.specs.Sections.{Section, Equations, frames_of, section_in, sections_in}
use Rattle.mo_equations.specs.steps.Makings.{IsMade}

-- ---- frames

abbrev pub frames_seen : List Frame → List FrameId → List Frame
frames_seen frames numbers = map (λ number. frame_in frames number.0) numbers

abbrev pub AreFrames : World → List FrameId → Type 0
AreFrames world numbers = Every (λ number. IsFrame world number.0) numbers

-- the frames whose sections all instances have
abbrev pub frames_of_instances : Table → List Instance → Outcome (List Frame)
frames_of_instances table instances =
    and_then (each (λ instance. frames_of table instance.frame) instances) (λ lists. Ok (flat_map (λ list. list) lists))

-- the last frame on the way to a base, which is the first one that is held
abbrev pub last_frame : List FrameId → List FrameId
last_frame [] = []
last_frame (frame ∷ through) = frame ∷ []

-- those of all bases
abbrev pub last_frames : List (List FrameId) → List FrameId
last_frames bases = flat_map last_frame bases

-- ---- sections

abbrev pub placed_as : List Frame → PlacedAt → Section → Placed
placed_as frames placed section = record { frame = frame_in frames placed.frame.0; name = placed.class.now.place; section = section }

abbrev pub section_placed : List Frame → PlacedAt → Bool → List (EquationOf EquationKind) → List Placed
section_placed frames placed initial equations = placed_as frames placed (Equations initial equations) ∷ []

abbrev pub item_placed : List Frame → PlacedAt → Item → List Placed
item_placed frames placed item = map (placed_as frames placed) (section_in item)

abbrev pub placed_in_class : List Frame → PlacedAt → List Placed
placed_in_class frames placed = map (placed_as frames placed) (sections_in (out-Body placed.class.now.body))

-- those of the class of a frame
abbrev pub sections_with : World → FrameId → List Placed
sections_with world number = sections_at (table_in world) (frame_at world number.0)

-- ---- what comes of them

abbrev pub part_of_section : Bool → Made → List Parts
part_of_section initial made = parts_of initial made ∷ []

pub record AreParts (held : PartsAt) (parts : List Parts) : Type 0 where
  pub initial : IsMade held.initial (all_beside (map (λ one. one.initial) parts))
  pub usual : IsMade held.usual (all_beside (map (λ one. one.usual) parts))

-- The answer is this outcome, whose parts were put behind those before; want of memory says nothing.
abbrev pub PutsParts : Result (Unit {0}) Stop → (old new : PartsAt) → Desk → Outcome (List Parts × ℕ) → Type 0
PutsParts (Ok done) old new desk told =
    (more : List Parts) × (told ≡ Ok (more, desk.turns)) × ((before : List Parts) → AreParts old before → AreParts new (before ++ more))
PutsParts (Err (broken_by broken)) old new desk told = told ≡ Err broken
PutsParts (Err no_memory) old new desk told = Unit {0}

abbrev pub GivesParts : Result PartsAt Stop → Desk → Outcome (List Parts × ℕ) → Type 0
GivesParts (Ok held) desk told = (parts : List Parts) × (told ≡ Ok (parts, desk.turns)) × AreParts held parts
GivesParts (Err (broken_by broken)) desk told = told ≡ Err broken
GivesParts (Err no_memory) desk told = Unit {0}

-- what comes of the sections of all instances
abbrev pub parts_of_tree : Tree → Turning (List Parts)
parts_of_tree tree turns = and_then (all_sections tree) (λ sections. turn_each (made_placed tree) sections turns)
