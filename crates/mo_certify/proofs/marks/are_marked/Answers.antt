use Rattle.std.proofs.Common.{arith}
use Rattle.mo_certify.proofs.Marking.{listed_at, listed_where}
use Rattle.mo_certify.proofs.marks.are_marked.Goals as goal

pub returns-then-mark-number-eq0-clause-no : goal.returns-then-mark-number-eq0-clause-no
returns-then-mark-number-eq0-clause-no c = λ _. (_, listed_at c.args.list.now c.loop-number.number-index c.loop-number-test.true, c.if-mark-number-eq0.true)

pub returns-clause-yes : goal.returns-clause-yes
returns-clause-yes c = λ _ x listed.
    let there = listed_where c.args.list.now x listed in
    rw (← there.2) (c.loop-number.invariant there.0 (omega (arith, there.1)))
