use Rattle.mo_report_lines.proofs.Numbers.{number_shorter}
use Rattle.mo_report_lines.proofs.number.after_number.Goals as goal

pub returns-clause-shorter : goal.returns-clause-shorter
returns-clause-shorter c = number_shorter _ _ _ c.in_ok-read.ensures.fits c.in_ok-read.ensures.some
