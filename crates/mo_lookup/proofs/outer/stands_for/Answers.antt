-- The frames grow by the calls on the way.
use Rattle.mo_names.proofs.Later.{grows_refl}
use Rattle.mo_lookup.proofs.outer.stands_for.Goals as goal

pub returns-in-Class-clause-grows : goal.returns-in-Class-clause-grows
returns-in-Class-clause-grows c = grows_refl _
