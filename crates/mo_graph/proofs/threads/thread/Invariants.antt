use Rattle.mo_graph.specs.Edges.{IsThreadedTo}
use Rattle.mo_graph.proofs.threads.thread.Given as goal

abbrev pub invariant-loop-x : goal.invariant-loop-x
invariant-loop-x l = IsThreadedTo l.keys l.last l.before l.x
