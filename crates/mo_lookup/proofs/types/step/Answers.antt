-- The frames grow by the calls on the way.
use Rattle.mo_names.proofs.Later.{grows_refl}
use Rattle.mo_lookup.proofs.types.step.Goals as goal

pub returns-in-Nowhere-clause-grows : goal.returns-in-Nowhere-clause-grows
returns-in-Nowhere-clause-grows c = grows_refl _
