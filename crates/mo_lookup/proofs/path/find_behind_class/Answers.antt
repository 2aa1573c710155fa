-- The frames grow by the calls on the way.
use Rattle.mo_names.proofs.Later.{grows_trans}
use Rattle.mo_lookup.proofs.path.find_behind_class.Goals as goal

pub returns-in-Ok-clause-grows : goal.returns-in-Ok-clause-grows
returns-in-Ok-clause-grows c = grows_trans _ _ _ c.in-Ok.ensures.grows c.taken.ensures.grows
