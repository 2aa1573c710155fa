-- The frames grow by the calls on the way.
use Rattle.mo_names.proofs.Later.{grows_refl}
use Rattle.mo_names.proofs.reach.star_reached.Goals as goal

pub returns-in-Other-clause-grows : goal.returns-in-Other-clause-grows
returns-in-Other-clause-grows c = grows_refl _

pub returns-in-Absent-clause-grows : goal.returns-in-Absent-clause-grows
returns-in-Absent-clause-grows c = grows_refl _
