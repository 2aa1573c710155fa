use Rattle.mo_report_lines.proofs.Numbers.{digits_taken, whole_number, number_at, no_number_at}
use Rattle.mo_report_lines.proofs.number.number.Goals as goal

pub value_of-requires : goal.value_of-requires
value_of-requires c = digits_taken c.args.text.now c.digits_len-len.result c.digits_len-len.ensures.value

pub returns-in_err-value-clause-none : goal.returns-in_err-value-clause-none
returns-in_err-value-clause-none c = rw c.from_residual.ensures (no_number_at c.args.text.now c.digits_len-len.result c.digits_len-len.ensures.value c.in_err-value.ensures.none)

pub returns-clause-some : goal.returns-clause-some
returns-clause-some c = whole_number c.args.text.now c.digits_len-len.result c.in_ok-value.value c.in_ok-value.ensures.some

pub returns-clause-only : goal.returns-clause-only
returns-clause-only c = number_at c.args.text.now c.digits_len-len.result c.in_ok-value.value c.digits_len-len.ensures.value c.in_ok-value.ensures.some c.in_ok-value.ensures.fits
