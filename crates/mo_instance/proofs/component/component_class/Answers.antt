-- The frames grow by the calls on the way.
use Rattle.mo_names.proofs.Later.{grows_refl}
use Rattle.mo_instance.proofs.component.component_class.Goals as goal

pub returns-in_err-prefix-clause-grows : goal.returns-in_err-prefix-clause-grows
returns-in_err-prefix-clause-grows c = grows_refl _

pub returns-in_err-in_profile-clause-grows : goal.returns-in_err-in_profile-clause-grows
returns-in_err-in_profile-clause-grows c = grows_refl _
