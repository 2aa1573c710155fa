use Rattle.mo_graph.specs.Edges.{IsLeadingTo}
use Rattle.mo_graph.proofs.leaders.find_leaders.Given as goal

abbrev pub invariant-loop-i : goal.invariant-loop-i
invariant-loop-i l = IsLeadingTo l.class l.first l.leader l.i
