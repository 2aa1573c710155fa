use Rattle.mo_report_lines.specs.Grammar.{head, offsets, square}
use Rattle.mo_report_lines.proofs.Forms.{block_line, no_line}
use Rattle.mo_report_lines.proofs.line.is_line.Goals as goal

pub returns-then-is_of_offsets-clause-yes : goal.returns-then-is_of_offsets-clause-yes
returns-then-is_of_offsets-clause-yes c = λ e. offsets (c.is_of_offsets.ensures.yes c.if-is_of_offsets.true)

pub returns-then-is_of_square-clause-yes : goal.returns-then-is_of_square-clause-yes
returns-then-is_of_square-clause-yes c = λ e. square (c.is_of_square.ensures.yes c.if-is_of_square.true)

pub returns-then-is_block-clause-yes : goal.returns-then-is_block-clause-yes
returns-then-is_block-clause-yes c = λ e. block_line c.args.text.now (c.is_block.ensures.yes c.if-is_block.true)

pub returns-clause-yes : goal.returns-clause-yes
returns-clause-yes c = λ e. head (c.is_head.ensures.yes e)

pub returns-clause-no : goal.returns-clause-no
returns-clause-no c =
    λ e. no_line c.args.text.now (c.is_of_offsets.ensures.no c.if-is_of_offsets.false) (c.is_of_square.ensures.no c.if-is_of_square.false) (c.is_block.ensures.no c.if-is_block.false) (c.is_head.ensures.no e)
