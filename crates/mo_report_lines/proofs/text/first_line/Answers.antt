use Rattle.std.proofs.lemmas.List.{take_rest}
use Rattle.mo_report_lines.proofs.Texts.{first_cut}
use Rattle.mo_report_lines.proofs.text.first_line.Goals as goal

pub returns-clause-lines : goal.returns-clause-lines
returns-clause-lines c = λ some. rw (take_rest c.args.text.now c.line_end-end.result) (first_cut c.args.text.now c.line_end-end.result some c.line_end-end.ensures.feed c.line_end-end.ensures.last)
