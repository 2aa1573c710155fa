-- The frames grow by the calls on the way.
use Rattle.mo_names.proofs.Later.{grows_refl}
use Rattle.mo_instance.proofs.outer.inner_checked.Goals as goal

pub returns-then-has_condition-clause-grows : goal.returns-then-has_condition-clause-grows
returns-then-has_condition-clause-grows c = grows_refl _
