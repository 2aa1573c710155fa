use Rattle.mo_bytes.proofs.laws.Written.{ladder_refusals_law}
use Rattle.mo_bytes.proofs.stated.ladder_refusals_stand.Goals as goal

pub returns : goal.returns
returns c = ladder_refusals_law
