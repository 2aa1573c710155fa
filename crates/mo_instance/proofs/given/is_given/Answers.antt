-- The frames grow by the calls on the way.
use Rattle.mo_names.proofs.Later.{grows_refl}
use Rattle.mo_instance.proofs.given.is_given.Goals as goal

pub returns-then-is_input-clause-grows : goal.returns-then-is_input-clause-grows
returns-then-is_input-clause-grows c = grows_refl _
