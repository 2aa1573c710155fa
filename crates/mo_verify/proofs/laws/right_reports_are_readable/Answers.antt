use Rattle.mo_verify.proofs.Deficits.{right_readable}
use Rattle.mo_verify.proofs.laws.right_reports_are_readable.Goals as goal

pub returns : goal.returns
returns c = right_readable
