use Rattle.mo_places.proofs.laws.Stated.{names_law}
use Rattle.mo_places.proofs.stated.names_stand.Goals as goal

pub returns : goal.returns
returns c = λ files. names_law files
