use Rattle.std.proofs.Common.{◌≡◌, ◌+◌, ◌++◌, drop}
use Rattle.mo_incidence.specs.Offsets.{by_place}
use Rattle.mo_blocks.specs.Stages.{kept}
use Rattle.mo_select.proofs.candidates.keep.Given as goal

abbrev pub invariant-loop-place : goal.invariant-loop-place
invariant-loop-place l = l.found.items ++ kept (by_place l.c) (l.done + 1) (drop l.place-index l.places) ≡ kept (by_place l.c) (l.done + 1) l.places
