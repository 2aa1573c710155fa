use Rattle.std.proofs.Common.{◌≡◌, ◌<◌, ℕ, slice_index}
use Rattle.mo_incidence.specs.Offsets.{by_number}
use Rattle.mo_blocks.proofs.derivatives.note_depths.Given as goal

abbrev pub invariant-loop-i : goal.invariant-loop-i
invariant-loop-i l = (r : ℕ) → r < l.i → by_number l.depth (slice_index l.pairs r) ≡ slice_index l.c r
