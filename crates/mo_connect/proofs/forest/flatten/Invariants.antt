use Rattle.mo_connect.specs.steps.Forest.{Shortens, IsFlatBelow}
use Rattle.mo_connect.proofs.forest.flatten.Given as goal

abbrev pub invariant-loop-i : goal.invariant-loop-i
invariant-loop-i l = record {
  shortens : Shortens l.initial.parent l.parent;
  flat : IsFlatBelow l.i l.parent;
}
