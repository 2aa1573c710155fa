-- What is selected by the report, and the texts.
use Rattle.mo_front.proofs.emit.by_report.Goals as goal

pub returns : goal.returns
returns c = (c.status_of.ensures, record { selected = c.in_ok-selected.selected; selects = c.in_ok-selected.ensures; is = rw c.parts.ensures at c.in_ok-text.ensures })
