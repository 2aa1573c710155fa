use Rattle.mo_path_names.proofs.laws.Flattening.{models_law}
use Rattle.mo_path_names.proofs.stated.flat_models_have_names.Goals as goal

pub returns : goal.returns
returns c = λ naming files sound. models_law naming files sound
