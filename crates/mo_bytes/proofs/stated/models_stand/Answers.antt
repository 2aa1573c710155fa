use Rattle.mo_bytes.proofs.laws.Told.{models_law}
use Rattle.mo_bytes.proofs.stated.models_stand.Goals as goal

pub returns : goal.returns
returns c = models_law
