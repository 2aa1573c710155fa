use Rattle.mo_path_names.proofs.laws.Instancing.{instances_law}
use Rattle.mo_path_names.proofs.stated.instances_have_names.Goals as goal

pub returns : goal.returns
returns c = λ naming files sound. instances_law naming files sound
