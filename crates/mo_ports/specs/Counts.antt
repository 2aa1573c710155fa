-- Counters of 64 bits that never fall, and stand still at their last value.
use Rattle.std.specs.Prelude.{ℕ, ◌+◌, ◌-◌, ◌^◌, ◌≤◌, min}

-- a counter after `by` more, which stands still at its end
abbrev pub raised : ℕ → ℕ → ℕ
raised before by = min (before + by) (2 ^ 64 - 1)

-- the counter rose, or stands at its last value
abbrev pub Rose : ℕ → ℕ → Type 0
Rose before after = raised before 1 ≤ after

-- the counter rose by more than `limit`, or stands at its last value
abbrev pub RoseBeyond : ℕ → ℕ → ℕ → Type 0
RoseBeyond limit before after = raised before (limit + 1) ≤ after
