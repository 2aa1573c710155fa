-- The frames grow by the calls on the way.
use Rattle.mo_names.proofs.Later.{grows_refl}
use Rattle.mo_names.proofs.past.next_past.Goals as goal

pub returns-in-Ok-Some-clause-grows : goal.returns-in-Ok-Some-clause-grows
returns-in-Ok-Some-clause-grows c = grows_refl _

pub returns-in-Err-clause-grows : goal.returns-in-Err-clause-grows
returns-in-Err-clause-grows c = grows_refl _
