-- A numbered frame as data.
use Rattle.std.specs.Prelude.{◌≡◌, ℕ, List, [], Option, option_map}
use Rattle.mo_syntax.specs.declared.meaning.FrameId.{FrameId}
use Rattle.mo_syntax.specs.declared.meaning.InstancePath.{InstancePath}
use Rattle.mo_scope.specs.declared.frame.FrameData.{FrameData}
use Rattle.mo_scope.specs.Frames.{Indexed}
use Rattle.mo_scope.specs.Worlds.{FrameEntry, MemberEntry}

abbrev pub number_of : FrameId → ℕ
number_of frame = frame.0

abbrev pub names_of : InstancePath → Indexed
names_of path = path.0

abbrev pub entry_seen : FrameData → FrameEntry
entry_seen frame = record {
  class = frame.class.0;
  sources = frame.sources;
  outer = option_map number_of frame.outer;
  at = option_map names_of frame.at;
  owner = option_map number_of frame.owner;
}

-- it has no sources, and these other parts
abbrev pub IsSourceless : FrameData → ℕ → Option FrameId → Option Indexed → Option FrameId → Type 0
IsSourceless frame class outer at owner =
    entry_seen frame ≡ record { class = class; sources = []; outer = option_map number_of outer; at = at; owner = option_map number_of owner }

abbrev pub table_seen : FrameData → Option (List MemberEntry)
table_seen frame = frame.table
