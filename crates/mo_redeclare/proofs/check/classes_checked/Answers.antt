-- The frames grow by the calls on the way.
use Rattle.mo_names.proofs.Later.{grows_trans}
use Rattle.mo_redeclare.proofs.check.classes_checked.Goals as goal

pub returns-in_err-wanted-clause-grows : goal.returns-in_err-wanted-clause-grows
returns-in_err-wanted-clause-grows c = grows_trans _ _ _ c.in_ok-new.ensures.grows c.in_err-wanted.ensures.grows

pub returns-clause-grows : goal.returns-clause-grows
returns-clause-grows c = grows_trans _ _ _ c.in_ok-new.ensures.grows (grows_trans _ _ _ c.in_ok-wanted.ensures.grows c.compatible.ensures.grows)
