use Rattle.std.proofs.Common.{sym, ◌∙◌}
use Rattle.mo_report_lines.proofs.Forms.{block_all, block_more, block_never}
use Rattle.mo_report_lines.proofs.line.is_block.Goals as goal

pub returns-in_default-clause-no : goal.returns-in_default-clause-no
returns-in_default-clause-no c = λ e line. c.in_default.ensures.none line.numbers line.is

pub returns-in-None-clause-no : goal.returns-in-None-clause-no
returns-in-None-clause-no c = λ e line. block_never c.args.line.now c.in-Some.text.now c.in-Some.ensures.some c.in-None.ensures.none line

pub returns-in-Some-after_numbers-clause-yes : goal.returns-in-Some-after_numbers-clause-yes
returns-in-Some-after_numbers-clause-yes c =
    λ e. block_all c.args.line.now c.in-Some.text.now c.in-Some-after_numbers.rest.now c.in-Some.ensures.some c.in-Some-after_numbers.ensures.some (sym c.is_empty.ensures ∙ e)

pub returns-in-Some-after_numbers-clause-no : goal.returns-in-Some-after_numbers-clause-no
returns-in-Some-after_numbers-clause-no c =
    λ e. block_more c.args.line.now c.in-Some.text.now c.in-Some-after_numbers.rest.now c.in-Some.ensures.some c.in-Some-after_numbers.ensures.some (sym c.is_empty.ensures ∙ e)
