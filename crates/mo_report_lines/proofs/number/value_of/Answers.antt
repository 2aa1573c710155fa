use Rattle.std.proofs.Common.{sym, ◌∙◌}
use Rattle.mo_report_lines.proofs.Numbers.{zero_of, not_empty, not_zeros, spelled_by, too_great}
use Rattle.mo_report_lines.proofs.number.value_of.Goals as goal

pub returns-then-is_empty-clause-none : goal.returns-then-is_empty-clause-none
returns-then-is_empty-clause-none c = λ n small e. not_empty n c.args.digits.now small e (zero_of _ (sym c.is_empty.ensures ∙ c.if-is_empty.true))

pub returns-then-is_padded-clause-none : goal.returns-then-is_padded-clause-none
returns-then-is_padded-clause-none c = λ n small e. not_zeros n c.args.digits.now small e (c.is_padded.ensures.yes c.if-is_padded.true).0 (c.is_padded.ensures.yes c.if-is_padded.true).1

pub returns-in_err-value-clause-none : goal.returns-in_err-value-clause-none
returns-in_err-value-clause-none c = rw c.from_residual.ensures (too_great c.args.digits.now c.in_err-value.ensures.none)

pub returns-clause-some : goal.returns-clause-some
returns-clause-some c =
    spelled_by c.args.digits.now c.in_ok-value.value c.requires (sym c.is_empty.ensures ∙ c.if-is_empty.false) (c.is_padded.ensures.no c.if-is_padded.false) c.in_ok-value.ensures.some c.in_ok-value.ensures.fits
