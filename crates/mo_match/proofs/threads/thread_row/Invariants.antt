use Rattle.mo_match.specs.steps.Threads.{IsThreaded}
use Rattle.mo_match.proofs.threads.thread_row.Given as goal

abbrev pub invariant-loop-k : goal.invariant-loop-k
invariant-loop-k l = IsThreaded l.inc l.last l.before l.row_of l.x l.i l.k
