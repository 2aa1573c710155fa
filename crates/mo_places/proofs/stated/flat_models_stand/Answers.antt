use Rattle.mo_places.proofs.laws.Stated.{flat_models_law}
use Rattle.mo_places.proofs.stated.flat_models_stand.Goals as goal

pub returns : goal.returns
returns c = λ files. flat_models_law files
