-- Limits of what the program reads.
use Rattle.std.specs.Prelude.{ℕ}

-- the most files that the words may name
abbrev pub most_files : ℕ
most_files = 64

-- the most bytes that a file may have
abbrev pub file_limit : ℕ
file_limit = 4194304

-- the most bytes that all files may have
abbrev pub all_files_limit : ℕ
all_files_limit = 16777216

-- the most bytes that a printed report may have; they count in no other limit
abbrev pub printed_limit : ℕ
printed_limit = 67108864
