use Rattle.mo_certify.proofs.Marking.{marks_marked, marks_only}
use Rattle.mo_certify.proofs.marks.mark_all.Goals as goal

pub returns-clause-marked : goal.returns-clause-marked
returns-clause-marked c = λ _. marks_marked _ _ _ _ c.loop-number.invariant c.loop-number-test.false

pub returns-clause-only : goal.returns-clause-only
returns-clause-only c = λ _. marks_only _ _ _ _ c.loop-number.invariant c.loop-number.auto.number-index-end
