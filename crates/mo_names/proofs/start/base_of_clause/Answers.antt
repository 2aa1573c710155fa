-- The frames grow by the calls on the way.
use Rattle.mo_names.proofs.Later.{grows_refl}
use Rattle.mo_names.proofs.start.base_of_clause.Goals as goal

pub returns-in_err-sources-in-Some-clause-grows : goal.returns-in_err-sources-in-Some-clause-grows
returns-in_err-sources-in-Some-clause-grows c = grows_refl _

pub returns-in-None-clause-grows : goal.returns-in-None-clause-grows
returns-in-None-clause-grows c = grows_refl _
