use Rattle.std.proofs.lemmas.List.{take_rest}
use Rattle.mo_report_lines.proofs.Parts.{indices_at, unclosed_at, unnumbered_at}
use Rattle.mo_report_lines.proofs.name.after_indices.Goals as goal

pub returns-in_err-rest-clause-none : goal.returns-in_err-rest-clause-none
returns-in_err-rest-clause-none c = rw c.from_residual.ensures (unnumbered_at c.args.text.now c.requires.some c.requires.first (rw (take_rest c.args.text.now 1) at c.in_err-rest.ensures.none))

pub returns-then-begins_with-clause-some : goal.returns-then-begins_with-clause-some
returns-then-begins_with-clause-some c =
    rw (take_rest c.in_ok-rest.rest.now 1)
    (indices_at c.args.text.now c.in_ok-rest.rest.now c.requires.some c.requires.first (rw (take_rest c.args.text.now 1) at c.in_ok-rest.ensures.some) (c.begins_with.ensures.yes c.if-begins_with.true))

pub returns-else-begins_with-clause-none : goal.returns-else-begins_with-clause-none
returns-else-begins_with-clause-none c =
    unclosed_at c.args.text.now c.in_ok-rest.rest.now c.requires.some c.requires.first (rw (take_rest c.args.text.now 1) at c.in_ok-rest.ensures.some) (c.begins_with.ensures.no c.if-begins_with.false)
