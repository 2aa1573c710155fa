-- The frames grow by the calls on the way.
use Rattle.mo_names.proofs.Later.{grows_refl}
use Rattle.mo_lookup.proofs.ahead.keep_ahead.Goals as goal

pub returns-else-may_be_inherited : goal.returns-else-may_be_inherited
returns-else-may_be_inherited c = grows_refl _
