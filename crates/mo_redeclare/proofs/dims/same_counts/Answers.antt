-- The frames grow by the calls on the way.
use Rattle.mo_names.proofs.Later.{grows_trans}
use Rattle.mo_redeclare.proofs.dims.same_counts.Goals as goal

pub returns-in_err-other-clause-grows : goal.returns-in_err-other-clause-grows
returns-in_err-other-clause-grows c = grows_trans _ _ _ c.in_ok-count.ensures.grows c.in_err-other.ensures.grows

pub returns-clause-grows : goal.returns-clause-grows
returns-clause-grows c = grows_trans _ _ _ c.in_ok-count.ensures.grows c.in_ok-other.ensures.grows
