-- The frames grow by the calls on the way.
use Rattle.mo_names.proofs.Later.{grows_refl}
use Rattle.mo_lookup.proofs.entering.component_child.Goals as goal

pub returns-in_err-wins-clause-grows : goal.returns-in_err-wins-clause-grows
returns-in_err-wins-clause-grows c = grows_refl _
