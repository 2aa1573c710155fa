-- The frames grow by the calls on the way.
use Rattle.mo_names.proofs.Later.{grows_refl}
use Rattle.mo_names.proofs.class_element.entered_as.Goals as goal

pub returns-in_err-sources-clause-grows : goal.returns-in_err-sources-clause-grows
returns-in_err-sources-clause-grows c = grows_refl _
