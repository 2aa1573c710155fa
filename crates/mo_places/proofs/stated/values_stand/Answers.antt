use Rattle.mo_places.proofs.laws.Stated.{values_law}
use Rattle.mo_places.proofs.stated.values_stand.Goals as goal

pub returns : goal.returns
returns c = λ files. values_law files
