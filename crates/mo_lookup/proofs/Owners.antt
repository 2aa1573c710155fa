-- The owners of frames, one after another.
use Rattle.std.proofs.Common.{ℕ, length}
use Rattle.mo_scope.specs.Frames.{Frame, owners}

-- how many owners a frame has
abbrev pub owner_count : Frame → ℕ
owner_count frame = length (owners frame)
