use Rattle.mo_alias.proofs.Uniqueness.{one_finding_holds}
use Rattle.mo_alias.proofs.laws.one_finding.Goals as goal

pub returns : goal.returns
returns c = one_finding_holds
