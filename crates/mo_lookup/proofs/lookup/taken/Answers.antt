-- The frames grow by the calls on the way.
use Rattle.mo_names.proofs.Later.{grows_refl}
use Rattle.mo_lookup.proofs.lookup.taken.Goals as goal

pub returns-in_err-constant_or_near-clause-grows : goal.returns-in_err-constant_or_near-clause-grows
returns-in_err-constant_or_near-clause-grows c = grows_refl _
