-- The frames grow by the calls on the way.
use Rattle.mo_names.proofs.Later.{grows_refl}
use Rattle.mo_redeclare.proofs.comparing.compatible.Goals as goal

pub returns-in_err-classes-clause-grows : goal.returns-in_err-classes-clause-grows
returns-in_err-classes-clause-grows c = grows_refl _

pub returns-in_err-left-clause-grows : goal.returns-in_err-left-clause-grows
returns-in_err-left-clause-grows c = grows_refl _
