-- Numbered frames: what `Scopes` holds, and the frames that its numbers stand for.
use Rattle.std.specs.Prelude.{◌≡◌, ℕ, ◌<◌, Bool, List, [], ◌∷◌, ◌++◌, length, map, Option, Some, None, Ok, get_or, slice_get}
use Rattle.mo_syntax.specs.declared.class.FileTree.{FileTree}
use Rattle.mo_syntax.specs.SoundTree.{IsSoundTree}
use Rattle.mo_scope.specs.Rows.{Declares, Part, Element_of, Row, class_number, row_at, Table, table_of, number_of_classes}
use Rattle.mo_scope.specs.Frames.{Piece, Frame, Top, In, Indexed, Iterations, Scope, Source, Member, class_of, gathered}
use Rattle.mo_scope.specs.Names.{elements_of}

-- A source whose scope has a numbered frame.
pub record SourceEntry : Type 0 where
  pub piece : Piece
  pub frame : ℕ
  pub iterations : Iterations

-- A numbered frame, its other frames by number.
pub record FrameEntry : Type 0 where
  pub class : ℕ
  pub sources : List SourceEntry
  pub outer : Option ℕ
  pub at : Option Indexed
  pub owner : Option ℕ

-- An element whose home is a numbered frame.
pub record MemberEntry : Type 0 where
  pub name : List ℕ
  pub home : ℕ
  pub item : ℕ
  pub hidden : Bool
  pub declares : Declares

-- The files, the frames by number, and for each frame the table of its elements, if one is kept.
pub record World : Type 0 where
  pub files : List FileTree
  pub entries : List FrameEntry
  pub tables : List (Option (List MemberEntry))

-- ---- the frames that numbers stand for

abbrev pub frame_in : List Frame → ℕ → Frame
frame_in frames n = get_or frames n Top

abbrev pub frame_or_top : List Frame → Option ℕ → Frame
frame_or_top frames None = Top
frame_or_top frames (Some n) = frame_in frames n

abbrev pub scope_in : List Frame → ℕ → Iterations → Scope
scope_in frames n iterations = record { frame = frame_in frames n; iterations = iterations }

abbrev pub source_in : List Frame → SourceEntry → Source
source_in frames source = record { piece = source.piece; scope = scope_in frames source.frame source.iterations }

abbrev pub sources_in : List Frame → List SourceEntry → List Source
sources_in frames sources = map (source_in frames) sources

abbrev pub member_in : List Frame → MemberEntry → Member
member_in frames member = record {
  name = member.name;
  home = frame_in frames member.home;
  item = member.item;
  hidden = member.hidden;
  declares = member.declares;
}

-- a frame, where those before it are known
abbrev pub frame_of_entry : List Frame → FrameEntry → Frame
frame_of_entry frames entry =
    In entry.class (gathered (sources_in frames entry.sources)) (frame_or_top frames entry.outer) entry.at (frame_or_top frames entry.owner)

abbrev pub frames_from : List Frame → List FrameEntry → List Frame
frames_from frames [] = frames
frames_from frames (entry ∷ entries) = frames_from (frames ++ frame_of_entry frames entry ∷ []) entries

-- all frames by number
unfoldable pub frames_of : World → List Frame
frames_of world = frames_from [] world.entries

abbrev pub frame_at : World → ℕ → Frame
frame_at world n = frame_in (frames_of world) n

abbrev pub table_in : World → Table
table_in world = table_of world.files

-- the row of the class of the frame with that number, None for a predefined type
abbrev pub row_of_frame : World → ℕ → Option Row
row_of_frame world n = row_at (table_in world) (class_of (frame_at world n))

-- ---- what is well formed

-- the frame has that number
abbrev pub IsFrame : World → ℕ → Type 0
IsFrame world n = n < length world.entries

-- The class of the entry with that number exists, and so do the frames of its sources, the frame around it and its owner: each stands
-- before it.
pub record IsEntry (classes n : ℕ) (entry : FrameEntry) : Type 0 where
  pub class : entry.class < classes
  pub sources : (k : ℕ) (source : SourceEntry) → slice_get entry.sources k ≡ Some source → source.frame < n
  pub outer : (m : ℕ) → entry.outer ≡ Some m → m < n
  pub owner : (m : ℕ) → entry.owner ≡ Some m → m < n

-- each class that one of the parts declares exists
abbrev pub PartsExist : ℕ → List Part → Type 0
PartsExist classes parts = (k : ℕ) (declares : Declares) → slice_get parts k ≡ Some (Element_of declares) → class_number declares < classes

-- the frames of some sources exist, and so does a frame that may be missing
abbrev pub AreFrames : World → List SourceEntry → Type 0
AreFrames world sources = (k : ℕ) (source : SourceEntry) → slice_get sources k ≡ Some source → IsFrame world source.frame

abbrev pub AreHomes : World → List MemberEntry → Type 0
AreHomes world members = (k : ℕ) (member : MemberEntry) → slice_get members k ≡ Some member → IsFrame world member.home

abbrev pub IsFrameOrNone : World → Option ℕ → Type 0
IsFrameOrNone world frame = (m : ℕ) → frame ≡ Some m → IsFrame world m

-- ---- what stays

-- The files stay, and each frame keeps its number: frames and tables are only added.
pub record Grows (old new : World) : Type 0 where
  pub files : new.files ≡ old.files
  pub more : List FrameEntry
  pub entries : new.entries ≡ old.entries ++ more

-- ---- tables

-- the table of a frame, None where none is kept
abbrev pub kept_table : World → ℕ → Option (List MemberEntry)
kept_table world n = get_or world.tables n None

-- these are the elements of the frame with that number, in their order
abbrev pub AreElements : World → ℕ → List MemberEntry → Type 0
AreElements world n members = elements_of (table_in world) (frame_at world n) ≡ Ok (map (member_in (frames_of world)) members)

-- the table is the list of the elements of its frame, and the frames that declare them exist
pub record IsTable (world : World) (n : ℕ) (members : List MemberEntry) : Type 0 where
  pub elements : AreElements world n members
  pub homes : AreHomes world members

pub record IsSound (world : World) : Type 0 where
  pub tree : IsSoundTree world.files
  pub entries : (n : ℕ) (entry : FrameEntry) → slice_get world.entries n ≡ Some entry → IsEntry (number_of_classes (table_in world)) n entry
  pub counted : length world.tables ≡ length world.entries
  pub kept : (n : ℕ) (members : List MemberEntry) → kept_table world n ≡ Some members → IsTable world n members
