-- The frames grow by the calls on the way.
use Rattle.mo_names.proofs.Later.{grows_trans}
use Rattle.mo_eval.proofs.references.leaf_kind.Goals as goal

pub returns-in_err-walk-clause-grows : goal.returns-in_err-walk-clause-grows
returns-in_err-walk-clause-grows c = grows_trans _ _ _ c.in_ok-frame.ensures.grows c.in_err-walk.ensures.grows

pub returns-in-None-clause-grows : goal.returns-in-None-clause-grows
returns-in-None-clause-grows c = grows_trans _ _ _ c.in_ok-frame.ensures.grows c.in_ok-walk.ensures.grows

pub returns-clause-grows : goal.returns-clause-grows
returns-clause-grows c = grows_trans _ _ _ c.in_ok-frame.ensures.grows c.in_ok-walk.ensures.grows
