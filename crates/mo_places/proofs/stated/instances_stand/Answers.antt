use Rattle.mo_places.proofs.laws.Stated.{instances_law}
use Rattle.mo_places.proofs.stated.instances_stand.Goals as goal

pub returns : goal.returns
returns c = λ files. instances_law files
