-- The frames grow by the calls on the way.
use Rattle.mo_names.proofs.Later.{grows_trans}
use Rattle.mo_lookup.proofs.types.long_step.Goals as goal

pub returns-in_err-base-clause-grows : goal.returns-in_err-base-clause-grows
returns-in_err-base-clause-grows c = grows_trans _ _ _ c.in_ok-is_leaf.ensures.grows c.in_err-base.ensures.grows

pub returns-in-Some-clause-grows : goal.returns-in-Some-clause-grows
returns-in-Some-clause-grows c = grows_trans _ _ _ c.in_ok-is_leaf.ensures.grows c.in_ok-base.ensures.grows

pub returns-in-None-clause-grows : goal.returns-in-None-clause-grows
returns-in-None-clause-grows c = grows_trans _ _ _ c.in_ok-is_leaf.ensures.grows c.in_ok-base.ensures.grows
