-- The bases in which dimensions are found, in a world.
use Rattle.std.specs.Prelude.{◌≡◌, ℕ, Option, option_map}
use Rattle.mo_syntax.specs.Outcome.{Outcome}
use Rattle.mo_syntax.specs.declared.meaning.FrameId.{FrameId}
use Rattle.mo_scope.specs.Frames.{Frame}
use Rattle.mo_scope.specs.Names.{clauses_of}
use Rattle.mo_scope.specs.Sizes.{first_base, leaf_base}
use Rattle.mo_scope.specs.Worlds.{World, frame_at, table_in}

-- the first base of leaf type of a frame of the old world, in the new one
abbrev pub IsLeafBase : (old new : World) → ℕ → Option FrameId → Type 0
IsLeafBase old new frame found =
    option_map (λ base. frame_at new base.0) found ≡ leaf_base (table_in old) (frame_at old frame) (clauses_of (table_in old) (frame_at old frame))

-- the base of the first extends clause, the frame itself where there is none
abbrev pub first_base_at : World → ℕ → Outcome Frame
first_base_at world frame = first_base (table_in world) (frame_at world frame) (clauses_of (table_in world) (frame_at world frame))
