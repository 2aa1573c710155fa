-- The frames grow by the calls on the way.
use Rattle.mo_names.proofs.Later.{grows_trans}
use Rattle.mo_redeclare.proofs.entering.entered_alike.Goals as goal

pub returns-clause-grows : goal.returns-clause-grows
returns-clause-grows c = grows_trans _ _ _ c.in_ok-child.ensures.grows c.entered_if_alike.ensures.grows
