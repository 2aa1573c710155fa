-- The frames grow by the calls on the way.
use Rattle.mo_names.proofs.Later.{grows_refl, grows_trans}
use Rattle.mo_instance.proofs.outer.is_alike.Goals as goal

pub returns-in_err-flow-clause-grows : goal.returns-in_err-flow-clause-grows
returns-in_err-flow-clause-grows c = grows_refl _

pub returns-in_err-other-clause-grows : goal.returns-in_err-other-clause-grows
returns-in_err-other-clause-grows c = grows_refl _

pub returns-in_err-wanted-clause-grows : goal.returns-in_err-wanted-clause-grows
returns-in_err-wanted-clause-grows c = grows_trans _ _ _ c.in_ok-count.ensures.grows c.in_err-wanted.ensures.grows

pub returns-then-count-wanted-clause-grows : goal.returns-then-count-wanted-clause-grows
returns-then-count-wanted-clause-grows c = grows_trans _ _ _ c.in_ok-count.ensures.grows c.in_ok-wanted.ensures.grows

pub returns-else-count-wanted-clause-grows : goal.returns-else-count-wanted-clause-grows
returns-else-count-wanted-clause-grows c = grows_trans _ _ _ c.in_ok-count.ensures.grows c.in_ok-wanted.ensures.grows
