use Rattle.std.proofs.Common.{arith, ◌+◌}
use Rattle.std.proofs.lemmas.List.{take_rest}
use Rattle.mo_report_lines.proofs.Quotes.{quoted_at, unquoted_at}
use Rattle.mo_report_lines.proofs.name.after_quoted.Goals as goal

pub returns-then-len-eq0-clause-none : goal.returns-then-len-eq0-clause-none
returns-then-len-eq0-clause-none c =
    let ends = rw (take_rest c.args.text.now 1) at c.contents_len-len.ensures in
    unquoted_at _ _ c.requires.some c.requires.first ends (λ more below quote. omega arith)

pub returns-then-len-text-clause-none : goal.returns-then-len-text-clause-none
returns-then-len-text-clause-none c =
    let ends = rw (take_rest c.args.text.now 1) at c.contents_len-len.ensures in
    unquoted_at _ _ c.requires.some c.requires.first ends (λ more below quote. omega arith)

pub returns-then-text-len-ne39-clause-none : goal.returns-then-text-len-ne39-clause-none
returns-then-text-len-ne39-clause-none c =
    let ends = rw (take_rest c.args.text.now 1) at c.contents_len-len.ensures in
    unquoted_at _ _ c.requires.some c.requires.first ends (λ more below quote. omega arith)

pub returns-clause-some : goal.returns-clause-some
returns-clause-some c =
    let ends = rw (take_rest c.args.text.now 1) at c.contents_len-len.ensures in
    rw (take_rest c.args.text.now (c.contents_len-len.result + 2)) (quoted_at _ _ c.requires.some c.requires.first ends (omega arith) (omega (arith, ends.within)) (omega arith))
