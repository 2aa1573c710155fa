use Rattle.mo_bytes.proofs.laws.Written.{long_reports_law, verdict_refusals_law}
use Rattle.mo_bytes.proofs.stated.verdict_refusals_stand.Goals as goal

pub returns-clause-files : goal.returns-clause-files
returns-clause-files c = verdict_refusals_law

pub returns-clause-report : goal.returns-clause-report
returns-clause-report c = long_reports_law
