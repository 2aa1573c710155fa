-- The elements of the walk exist.
use Rattle.mo_names.proofs.join.with_base.Goals as goal

pub with_elements-requires-clause-elements : goal.with_elements-requires-clause-elements
with_elements-requires-clause-elements c = c.without_names.ensures.stand c.args.s.now c.requires.walk
