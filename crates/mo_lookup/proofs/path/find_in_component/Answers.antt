-- The frames grow by the calls on the way.
use Rattle.mo_names.proofs.Later.{grows_trans}
use Rattle.mo_lookup.proofs.path.find_in_component.Goals as goal

pub returns-in-Ok-Element-clause-grows : goal.returns-in-Ok-Element-clause-grows
returns-in-Ok-Element-clause-grows c = grows_trans _ _ _ c.in-Ok-Element.ensures.grows c.part_of_component.ensures.grows
