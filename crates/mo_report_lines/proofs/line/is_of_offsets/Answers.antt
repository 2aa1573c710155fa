use Rattle.std.proofs.Common.{inl, inr}
use Rattle.mo_report_lines.proofs.Forms.{none_of_three}
use Rattle.mo_report_lines.proofs.line.is_of_offsets.Goals as goal

pub returns-then-has_form-clause-yes : goal.returns-then-has_form-clause-yes
returns-then-has_form-clause-yes c = λ e. inl (c.has_form.ensures.yes c.if-has_form.true)

pub returns-then-has_form-2-clause-yes : goal.returns-then-has_form-2-clause-yes
returns-then-has_form-2-clause-yes c = λ e. inr (inl (c.has_form-2.ensures.yes c.if-has_form-2.true))

pub returns-then-has_form-3-clause-yes : goal.returns-then-has_form-3-clause-yes
returns-then-has_form-3-clause-yes c = λ e. inr (inr (inl (c.has_form-3.ensures.yes c.if-has_form-3.true)))

pub returns-clause-no : goal.returns-clause-no
returns-clause-no c = λ e. none_of_three (c.has_form.ensures.no c.if-has_form.false) (c.has_form-2.ensures.no c.if-has_form-2.false) (c.has_form-3.ensures.no c.if-has_form-3.false)
