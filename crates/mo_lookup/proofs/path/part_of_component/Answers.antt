-- The frames grow by the calls on the way.
use Rattle.mo_names.proofs.Later.{grows_refl}
use Rattle.mo_lookup.proofs.path.part_of_component.Goals as goal

pub returns-then-is_class-clause-grows : goal.returns-then-is_class-clause-grows
returns-then-is_class-clause-grows c = grows_refl _

pub returns-then-part-clause-grows : goal.returns-then-part-clause-grows
returns-then-part-clause-grows c = grows_refl _
