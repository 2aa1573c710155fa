-- What the calls of `Scopes`, and those that pick values, answer.
use Rattle.std.specs.Prelude.{◌≡◌, ◌⊎◌, ◌++◌, ℕ, List, [], ◌∷◌, length, map, Option, Some, None, option_map, slice_get}
use Rattle.mo_syntax.specs.declared.meaning.FrameId.{FrameId}
use Rattle.mo_syntax.specs.declared.meaning.InstancePath.{InstancePath}
use Rattle.mo_scope.specs.declared.row.Clause.{Clause as ClauseAt}
use Rattle.mo_scope.specs.declared.row.Member.{Member as MemberAt}
use Rattle.mo_scope.specs.declared.row.Row.{Row as RowAt}
use Rattle.mo_scope.specs.declared.saying.Redeclaration.{Redeclaration as RedeclarationAt}
use Rattle.mo_scope.specs.declared.source.Picked.{Picked as PickedAt}
use Rattle.mo_scope.specs.declared.source.Source.{Source as SourceAt}
use Rattle.mo_scope.specs.Bare.{bare_entry}
use Rattle.mo_scope.specs.Entries.{names_of, number_of}
use Rattle.mo_scope.specs.Frames.{Frame, In, gathered, looked_up, sources_of}
use Rattle.mo_scope.specs.Parts.{base_sources, class_sources, component_sources, element_sources, parts, picked, picked_here, redeclarations, redeclared}
use Rattle.mo_scope.specs.Rows.{Table, number_of_classes}
use Rattle.mo_scope.specs.Sights.{clause_seen, frame_at_or_top, member_at, part_seen, picked_in, redeclaration_at, row_seen, source_seen, sources_at}
use Rattle.mo_scope.specs.Worlds.{World, AreFrames, IsFrame, PartsExist, frame_at, sources_in, table_in}

-- ---- rows

-- the classes that a row declares exist
abbrev pub RowExists : World → RowAt → Type 0
RowExists world row = PartsExist (number_of_classes (table_in world)) (map part_seen row.parts)

-- ---- frames

-- the frame of a class that is only looked up, in the frame with that number
abbrev pub bare_frame : World → ℕ → Option FrameId → Frame
bare_frame world class outer = looked_up class [] (frame_at_or_top world outer)

-- the entry with that number is of a class that is only looked up, in the frame with that number
abbrev pub IsBareEntry : World → ℕ → ℕ → Option FrameId → Type 0
IsBareEntry world n class outer = slice_get world.entries n ≡ Some (bare_entry class (option_map number_of outer))

-- the frame in the new world is of that class, with the sources, the frame around it and the owner that the old one has, at that path
abbrev pub IsEnteredFrame : (old new : World) → ℕ → List SourceAt → Option FrameId → Option InstancePath → Option FrameId → FrameId → Type 0
IsEnteredFrame old new class sources outer at owner frame =
    frame_at new frame.0 ≡ In class (gathered (sources_at old sources)) (frame_at_or_top old outer) (option_map names_of at) (frame_at_or_top old owner)

-- the world stays, or the frame has the next number and no table
abbrev pub IsOldOrNext : (old new : World) → FrameId → Type 0
IsOldOrNext old new frame = (new ≡ old) ⊎ ((frame.0 ≡ length old.entries) × (new.tables ≡ old.tables ++ None ∷ []))

-- ---- redeclarations

-- the frame exists where the redeclaration was written
abbrev pub HasScope : World → RedeclarationAt → Type 0
HasScope world redeclaration = IsFrame world redeclaration.source.scope.frame.0

abbrev pub HaveScopes : World → List RedeclarationAt → Type 0
HaveScopes world found = AreFrames world (map (λ redeclaration. source_seen redeclaration.source) found)

-- the redeclaration of an element that wins, entered at an index
abbrev pub IsWinningRedeclaration : World → ℕ → (name index : List ℕ) → Option RedeclarationAt → Type 0
IsWinningRedeclaration world frame name index found =
    option_map (redeclaration_at world) found ≡ redeclared (table_in world) (sources_of (frame_at world frame)) name index

-- all redeclarations of an element, entered at an index
abbrev pub AreRedeclarations : World → ℕ → (name index : List ℕ) → List RedeclarationAt → Type 0
AreRedeclarations world frame name index found =
    map (redeclaration_at world) found ≡ redeclarations (table_in world) (sources_of (frame_at world frame)) name index

-- ---- sources

-- the parts of a frame's sources for an element, entered at an index
abbrev pub ArePartsFor : World → ℕ → (name index : List ℕ) → List SourceAt → Type 0
ArePartsFor world frame name index made = sources_at world made ≡ parts (table_in world) (sources_of (frame_at world frame)) name index

-- the sources of an element, entered at an index
abbrev pub AreElementSources : World → MemberAt → (index : List ℕ) → List SourceAt → Type 0
AreElementSources world member index made = sources_at world made ≡ element_sources (table_in world) (member_at world member) index

-- the sources of a class that is an element
abbrev pub AreClassSources : World → MemberAt → List SourceAt → Type 0
AreClassSources world member made = sources_at world made ≡ class_sources (table_in world) (member_at world member)

-- the sources of a component, entered at an index, the class of whose type was found as that frame
abbrev pub AreComponentSources : World → MemberAt → (index : List ℕ) → ℕ → List SourceAt → Type 0
AreComponentSources world member index class made =
    sources_at world made ≡ component_sources (table_in world) (member_at world member) index (frame_at world class)

-- the sources of a base of a frame, whose class was found as the frame `base`
abbrev pub AreBaseSources : World → (frame : ℕ) → RowAt → ClauseAt → (base : ℕ) → List SourceAt → Type 0
AreBaseSources world frame row clause base made =
    sources_at world made ≡ base_sources (frame_at world frame) (row_seen row) (clause_seen clause) (frame_at world base)

-- ---- values

-- the value that sources give for a path, whatever frames their numbers stand for
abbrev pub IsPicked : List SourceAt → List (List ℕ) → Option PickedAt → Type 0
IsPicked sources path found =
    (frames : List Frame) → (table : Table) → option_map (picked_in frames) found ≡ picked table (sources_in frames (map source_seen sources)) path

-- the value that they give for the class that they modify
abbrev pub IsPickedHere : List SourceAt → Option PickedAt → Type 0
IsPickedHere sources found = (frames : List Frame) → option_map (picked_in frames) found ≡ picked_here (sources_in frames (map source_seen sources))
