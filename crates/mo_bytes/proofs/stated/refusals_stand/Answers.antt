use Rattle.mo_bytes.proofs.laws.Told.{refusals_law}
use Rattle.mo_bytes.proofs.stated.refusals_stand.Goals as goal

pub returns : goal.returns
returns c = refusals_law
