use Rattle.std.proofs.Common.{sym, ◌∙◌}
use Rattle.mo_report_lines.proofs.Words.{word_at, reserved_at}
use Rattle.mo_report_lines.proofs.name.after_plain.Goals as goal

pub returns-in-Some-clause-none : goal.returns-in-Some-clause-none
returns-in-Some-clause-none c = reserved_at c.args.text.now c.word_len-len.result _ c.requires.first c.word_len-len.ensures.value (sym c.keyword.ensures ∙ c.in-Some.is)

pub returns-in-None-clause-some : goal.returns-in-None-clause-some
returns-in-None-clause-some c = word_at c.args.text.now c.word_len-len.result c.requires.some c.requires.first c.word_len-len.ensures.value (sym c.keyword.ensures ∙ c.in-None.is)
