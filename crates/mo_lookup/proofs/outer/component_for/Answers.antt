-- The frames grow by the calls on the way.
use Rattle.mo_names.proofs.Later.{grows_refl}
use Rattle.mo_lookup.proofs.outer.component_for.Goals as goal

pub returns-then-not-member-clause-grows : goal.returns-then-not-member-clause-grows
returns-then-not-member-clause-grows c = grows_refl _
