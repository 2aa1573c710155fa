-- The frames grow by the calls on the way.
use Rattle.mo_names.proofs.Later.{grows_refl}
use Rattle.mo_eval.proofs.names.named.Goals as goal

pub returns-in-empty-clause-grows : goal.returns-in-empty-clause-grows
returns-in-empty-clause-grows c = grows_refl _
