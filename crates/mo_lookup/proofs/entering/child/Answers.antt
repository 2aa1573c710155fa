-- The frames grow by the calls on the way.
use Rattle.mo_names.proofs.Later.{grows_trans}
use Rattle.mo_lookup.proofs.entering.child.Goals as goal

pub returns-in-Ok-Element-clause-grows : goal.returns-in-Ok-Element-clause-grows
returns-in-Ok-Element-clause-grows c = grows_trans _ _ _ c.in-Ok-Element.ensures.grows c.child_of_member.ensures.grows
