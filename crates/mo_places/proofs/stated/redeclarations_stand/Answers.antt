use Rattle.mo_places.proofs.laws.Stated.{redeclarations_law}
use Rattle.mo_places.proofs.stated.redeclarations_stand.Goals as goal

pub returns : goal.returns
returns c = λ files. redeclarations_law files
