-- Where a name differs the path does not begin with the front.
use Rattle.mo_syntax.proofs.Found.{passed_later}
use Rattle.mo_syntax.proofs.finding.names_before.Goals as goal

pub returns-then-not-is_at-clause-passed : goal.returns-then-not-is_at-clause-passed
returns-then-not-is_at-clause-passed c = λ other. passed_later c.args.path.now c.args.front.now c.loop-name.at c.loop-name.name-index c.name-item.result other c.loop-name-test.true c.name-item.is
    c.loop-name.invariant.place c.loop-name.invariant.same c.if-not-is_at.ensures.no
