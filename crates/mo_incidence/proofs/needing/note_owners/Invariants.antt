use Rattle.mo_incidence.specs.Offsets.{by_place}
use Rattle.mo_incidence.specs.steps.Needing.{AreOwners}
use Rattle.mo_incidence.proofs.needing.note_owners.Given as goal

abbrev pub invariant-loop-i : goal.invariant-loop-i
invariant-loop-i l = AreOwners l.i (by_place l.pairs) l.owner
