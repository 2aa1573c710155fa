-- The frames grow by the calls on the way.
use Rattle.mo_names.proofs.Later.{grows_refl}
use Rattle.mo_names.proofs.class_element.met.Goals as goal

pub returns-else-is_class-clause-grows : goal.returns-else-is_class-clause-grows
returns-else-is_class-clause-grows c = grows_refl _
