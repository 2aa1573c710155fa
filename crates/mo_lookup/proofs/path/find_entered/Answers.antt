-- The frames grow by the calls on the way.
use Rattle.mo_names.proofs.Later.{grows_trans}
use Rattle.mo_lookup.proofs.path.find_entered.Goals as goal

pub returns-clause-grows : goal.returns-clause-grows
returns-clause-grows c = grows_trans _ _ _ c.in_ok-frame.ensures.grows c.find_in_component.ensures.grows
