-- The frames grow by the calls on the way.
use Rattle.mo_names.proofs.Later.{grows_refl}
use Rattle.mo_lookup.proofs.free.class_by_lookup.Goals as goal

pub returns-in_err-class_count-clause-grows : goal.returns-in_err-class_count-clause-grows
returns-in_err-class_count-clause-grows c = grows_refl _
