-- The frames grow by the calls on the way.
use Rattle.mo_names.proofs.Later.{grows_refl}
use Rattle.mo_lookup.proofs.ahead.keep_for_name.Goals as goal

pub returns-then-top : goal.returns-then-top
returns-then-top c = grows_refl _
