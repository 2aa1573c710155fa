-- The frames grow by the calls on the way.
use Rattle.mo_names.proofs.Later.{grows_refl}
use Rattle.mo_lookup.proofs.ahead.keep_walk.Goals as goal

pub returns-in_err-class_count : goal.returns-in_err-class_count
returns-in_err-class_count c = grows_refl _
