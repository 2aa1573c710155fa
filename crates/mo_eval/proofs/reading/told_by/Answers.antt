use Rattle.mo_eval.specs.Virtuals.{numbered}
use Rattle.mo_eval.proofs.reading.told_by.Goals as goal

pub returns-in-Division : goal.returns-in-Division
returns-in-Division c = λ frames read known are.
    rw c.in-Division.is (c.divided.ensures _ _ _ (c.known-a.ensures (numbered known) are) (c.known-b.ensures (numbered known) are))
