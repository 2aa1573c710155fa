use Rattle.mo_report_lines.proofs.OffsetLines.{numbered_at, no_number_at, no_word_number}
use Rattle.mo_report_lines.proofs.offsets.numbered.Goals as goal

pub returns-in_err-start-clause-none : goal.returns-in_err-start-clause-none
returns-in_err-start-clause-none c = rw c.from_residual.ensures (no_word_number c.args.word.now c.args.text.now c.in_err-start.ensures.none)

pub returns-in_err-read-clause-none : goal.returns-in_err-read-clause-none
returns-in_err-read-clause-none c = rw c.from_residual-in_err-read.ensures (no_number_at c.args.word.now c.args.text.now c.in_ok-start.start.now c.in_ok-start.ensures.some c.in_err-read.ensures.none)

pub returns-clause-some : goal.returns-clause-some
returns-clause-some c =
    numbered_at c.args.word.now c.args.text.now c.in_ok-start.start.now c.in_ok-read.read.1.now c.in_ok-read.read.0 c.in_ok-start.ensures.some c.in_ok-read.ensures.some c.in_ok-read.ensures.fits c.in_ok-read.ensures.only
