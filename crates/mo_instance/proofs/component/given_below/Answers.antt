-- The frames grow by the calls on the way.
use Rattle.mo_names.proofs.Later.{grows_refl}
use Rattle.mo_instance.proofs.component.given_below.Goals as goal

pub returns-clause-grows : goal.returns-clause-grows
returns-clause-grows c = grows_refl _
