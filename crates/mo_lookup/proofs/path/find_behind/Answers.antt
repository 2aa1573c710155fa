-- The frames grow by the calls on the way.
use Rattle.mo_names.proofs.Later.{grows_refl}
use Rattle.mo_lookup.proofs.path.find_behind.Goals as goal

pub returns-in-Literal-clause-grows : goal.returns-in-Literal-clause-grows
returns-in-Literal-clause-grows c = grows_refl _
