use Rattle.mo_match.specs.steps.Threads.{IsThreaded}
use Rattle.mo_match.proofs.threads.thread.Given as goal

abbrev pub invariant-loop-i : goal.invariant-loop-i
invariant-loop-i l = IsThreaded l.inc l.last l.before l.row_of l.filled l.i 0
