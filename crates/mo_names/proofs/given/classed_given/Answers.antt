-- What comes of a value that is given.
use Rattle.mo_names.proofs.HandedOn.{given_ok}
use Rattle.mo_names.proofs.given.classed_given.Goals as goal

pub returns-in-Ok-clause-value : goal.returns-in-Ok-clause-value
returns-in-Ok-clause-value c = λ told given. given_ok _ _ _ _ told _ c.classed.result c.in-Ok.is given c.classed.ensures.value
