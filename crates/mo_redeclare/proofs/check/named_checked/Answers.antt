-- The frames grow by the calls on the way.
use Rattle.mo_names.proofs.Later.{grows_refl}
use Rattle.mo_redeclare.proofs.check.named_checked.Goals as goal

pub returns-then-is_leaf-clause-grows : goal.returns-then-is_leaf-clause-grows
returns-then-is_leaf-clause-grows c = grows_refl _

pub returns-else-is_leaf-clause-grows : goal.returns-else-is_leaf-clause-grows
returns-else-is_leaf-clause-grows c = grows_refl _
