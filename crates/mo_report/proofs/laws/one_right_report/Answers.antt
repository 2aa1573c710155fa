use Rattle.mo_report.proofs.OneReport.{one_report}
use Rattle.mo_report.proofs.SameLines.{same_lines}
use Rattle.mo_report.proofs.laws.one_right_report.Goals as goal

pub returns-clause-report : goal.returns-clause-report
returns-clause-report c = one_report

pub returns-clause-text : goal.returns-clause-text
returns-clause-text c = same_lines
