use Rattle.std.proofs.Common.{length}
use Rattle.mo_certify.proofs.Marking.{IsMarkedTo}
use Rattle.mo_certify.proofs.marks.mark_all.Given as goal

abbrev pub invariant-loop-number : goal.invariant-loop-number
invariant-loop-number l = IsMarkedTo l.list l.mark (length l.initial.mark) l.number-index
