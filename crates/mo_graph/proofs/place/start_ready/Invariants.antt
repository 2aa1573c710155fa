use Rattle.mo_graph.specs.steps.Placing.{HasReady}
use Rattle.mo_graph.proofs.place.start_ready.Given as goal

abbrev pub invariant-loop-v : goal.invariant-loop-v
invariant-loop-v l = HasReady l.leader l.waits l.v l.ready
