use Rattle.mo_bytes.proofs.laws.Written.{told_refusals_law}
use Rattle.mo_bytes.proofs.stated.told_refusals_stand.Goals as goal

pub returns : goal.returns
returns c = told_refusals_law
