-- The frames grow by the calls on the way.
use Rattle.mo_names.proofs.Later.{grows_refl}
use Rattle.mo_names.proofs.class_element.entered_redeclared.Goals as goal

pub returns-then-not-is_class-clause-grows : goal.returns-then-not-is_class-clause-grows
returns-then-not-is_class-clause-grows c = grows_refl _
