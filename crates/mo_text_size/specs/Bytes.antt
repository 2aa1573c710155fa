-- How many bytes a text has.
use Rattle.std.specs.Prelude.{ℕ, ◌-◌, ◌^◌, List, length, min}

-- the greatest number of 64 bits stands for itself and for each greater one
abbrev pub bytes : List ℕ → ℕ
bytes text = min (length text) (2 ^ 64 - 1)
