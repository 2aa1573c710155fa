use Rattle.std.proofs.Common.{arith}
use Rattle.mo_pantelides.proofs.seek.meet.Goals as goal

pub returns-then-end-tail-clause-reaches : goal.returns-then-end-tail-clause-reaches
returns-then-end-tail-clause-reaches c = rw c.if-end-tail.true at c.reach-end.ensures

pub returns-then-end-tail-clause-row : goal.returns-then-end-tail-clause-row
returns-then-end-tail-clause-row c = λ none. absurd (omega (arith, (c.reach-end.ensures.new none).3, c.if-end-tail.true))

pub returns-clause-loose : goal.returns-clause-loose
returns-clause-loose c = λ some. absurd (c.if-end-tail.false (c.reach-end.ensures.old some).3)
