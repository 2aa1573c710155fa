use Rattle.std.proofs.Common.{arith, sym, ◌∙◌}
use Rattle.mo_report_lines.proofs.Words.{no_front, nothing_at}
use Rattle.mo_report_lines.proofs.name.after_identifier.Goals as goal

pub returns-then-is_empty-clause-none : goal.returns-then-is_empty-clause-none
returns-then-is_empty-clause-none c = nothing_at c.args.text.now (sym c.is_empty.ensures ∙ c.if-is_empty.true)

pub returns-then-text-ne39-clause-none : goal.returns-then-text-ne39-clause-none
returns-then-text-ne39-clause-none c = no_front c.args.text.now (sym c.is_letter.ensures ∙ c.if-is_letter.false) (λ quote. omega arith)
