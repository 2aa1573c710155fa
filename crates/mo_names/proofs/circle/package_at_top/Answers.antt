-- The class at the top.
use Rattle.mo_names.proofs.circle.package_at_top.Goals as goal

pub returns-clause-value : goal.returns-clause-value
returns-clause-value c = c.class_given.ensures.value _ c.first_at_top-found.ensures.value
