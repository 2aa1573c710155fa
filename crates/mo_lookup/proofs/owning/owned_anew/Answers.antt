-- The frames grow by the calls on the way.
use Rattle.mo_names.proofs.Later.{grows_refl}
use Rattle.mo_lookup.proofs.owning.owned_anew.Goals as goal

pub returns-then-not-is_empty-clause-grows : goal.returns-then-not-is_empty-clause-grows
returns-then-not-is_empty-clause-grows c = grows_refl _

pub returns-in_err-at-clause-grows : goal.returns-in_err-at-clause-grows
returns-in_err-at-clause-grows c = grows_refl _
