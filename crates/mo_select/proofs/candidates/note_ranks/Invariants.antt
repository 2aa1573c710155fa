use Rattle.mo_incidence.specs.Offsets.{by_place}
use Rattle.mo_incidence.specs.steps.Needing.{AreOwners}
use Rattle.mo_select.proofs.candidates.note_ranks.Given as goal

abbrev pub invariant-loop-place : goal.invariant-loop-place
invariant-loop-place l = AreOwners l.place (by_place l.order) l.rank
