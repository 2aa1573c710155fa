-- What contracts see of a shelf and of a sink in memory.
use Rattle.std.specs.Prelude.{ℕ, ◌-◌, ◌==◌, ◌||◌, ◌&&◌, Bool, not, List, [], length, Option, None, is_none}
use Rattle.std.specs.List.{list_any}
use Rattle.mo_ports.specs.Contents.{bytes_of}
use Rattle.mo_ports.specs.Counts.{raised}

-- the files; the most that one read gives; the numbers, from 1, of the reads that are to fail; how many reads there
-- were; how many bytes they gave; how many of them failed; and the name of the last that failed
pub record ShelfState : Type 0 where
  pub files : List (List ℕ × List ℕ)
  pub most : ℕ
  pub failing : List ℕ
  pub calls : ℕ
  pub taken : ℕ
  pub faults : ℕ
  pub failed : Option (List ℕ)

-- whether the next read of the name fails: it is one that is to fail, or the name is absent
abbrev pub read_fails : ShelfState → List ℕ → Bool
read_fails s name = list_any (λ n. n == raised s.calls 1) s.failing || is_none (bytes_of s.files name)

-- the bytes written; how many there is room for; the most that one write takes; the numbers, from 1, of the writes that
-- are to fail; how many writes there were; and how many of them failed
pub record SinkState : Type 0 where
  pub bytes : List ℕ
  pub room : ℕ
  pub most : ℕ
  pub failing : List ℕ
  pub calls : ℕ
  pub faults : ℕ

-- whether the next write fails: it is one that is to fail, or it has bytes and there is no room for one
abbrev pub write_fails : SinkState → List ℕ → Bool
write_fails s piece = list_any (λ n. n == raised s.calls 1) s.failing || (s.room - length s.bytes == 0 && not (length piece == 0))

-- a shelf of which nothing was read
abbrev pub unread : List (List ℕ × List ℕ) → ℕ → List ℕ → ShelfState
unread files most failing = record { files = files; most = most; failing = failing; calls = 0; taken = 0; faults = 0; failed = None }

-- a sink to which nothing was written
abbrev pub unwritten : ℕ → ℕ → List ℕ → SinkState
unwritten room most failing = record { bytes = []; room = room; most = most; failing = failing; calls = 0; faults = 0 }
