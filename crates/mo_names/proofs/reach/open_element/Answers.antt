-- The frames grow by the calls on the way.
use Rattle.mo_names.proofs.Later.{grows_refl}
use Rattle.mo_names.proofs.reach.open_element.Goals as goal

pub returns-then-member-clause-grows : goal.returns-then-member-clause-grows
returns-then-member-clause-grows c = grows_refl _
