-- What comes of a value that is given.
use Rattle.mo_names.proofs.HandedOn.{given_ok}
use Rattle.mo_names.proofs.Later.{grows_refl}
use Rattle.mo_names.proofs.given.star_given.Goals as goal

pub returns-in-Ok-clause-value : goal.returns-in-Ok-clause-value
returns-in-Ok-clause-value c = λ told given. given_ok _ _ _ _ told _ c.star_reached.result c.in-Ok.is given c.star_reached.ensures.value

pub returns-in-Err-clause-grows : goal.returns-in-Err-clause-grows
returns-in-Err-clause-grows c = grows_refl _
