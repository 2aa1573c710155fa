-- The frames grow by the calls on the way.
use Rattle.mo_names.proofs.Later.{grows_refl}
use Rattle.mo_redeclare.proofs.check.redeclaration_checked.Goals as goal

pub returns-then-not-is_same-clause-grows : goal.returns-then-not-is_same-clause-grows
returns-then-not-is_same-clause-grows c = grows_refl _

pub returns-in_err-is_replaceable_for-clause-grows : goal.returns-in_err-is_replaceable_for-clause-grows
returns-in_err-is_replaceable_for-clause-grows c = grows_refl _

pub returns-then-not-branch-clause-grows : goal.returns-then-not-branch-clause-grows
returns-then-not-branch-clause-grows c = grows_refl _
