use Rattle.mo_report_lines.proofs.OffsetLines.{named_at, no_name_at, no_word_name}
use Rattle.mo_report_lines.proofs.offsets.named.Goals as goal

pub returns-in_err-start-clause-none : goal.returns-in_err-start-clause-none
returns-in_err-start-clause-none c = rw c.from_residual.ensures (no_word_name c.args.word.now c.args.text.now c.in_err-start.ensures.none)

pub returns-in_err-rest-clause-none : goal.returns-in_err-rest-clause-none
returns-in_err-rest-clause-none c = rw c.from_residual-in_err-rest.ensures (no_name_at c.args.word.now c.args.text.now c.in_ok-start.start.now c.in_ok-start.ensures.some c.in_err-rest.ensures.none)

pub returns-clause-some : goal.returns-clause-some
returns-clause-some c = named_at c.args.word.now c.args.text.now c.in_ok-start.start.now c.in_ok-rest.rest.now c.in_ok-start.ensures.some c.in_ok-rest.ensures.some
