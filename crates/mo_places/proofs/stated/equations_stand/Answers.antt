use Rattle.mo_places.proofs.laws.Stated.{equations_law}
use Rattle.mo_places.proofs.stated.equations_stand.Goals as goal

pub returns : goal.returns
returns c = λ files. equations_law files
