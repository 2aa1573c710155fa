-- The frames grow by the calls on the way.
use Rattle.mo_names.proofs.Later.{grows_refl}
use Rattle.mo_redeclare.proofs.entering.entered_matching.Goals as goal

pub returns-in_err-prefix-clause-grows : goal.returns-in_err-prefix-clause-grows
returns-in_err-prefix-clause-grows c = grows_refl _

pub returns-in_err-other-clause-grows : goal.returns-in_err-other-clause-grows
returns-in_err-other-clause-grows c = grows_refl _

pub returns-then-not-same_prefixes-clause-grows : goal.returns-then-not-same_prefixes-clause-grows
returns-then-not-same_prefixes-clause-grows c = grows_refl _
