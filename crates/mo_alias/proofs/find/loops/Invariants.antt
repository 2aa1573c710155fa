use Rattle.mo_alias.specs.steps.Findings.{AreLoopsTo}
use Rattle.mo_alias.proofs.find.loops.Given as goal

abbrev pub invariant-loop-at : goal.invariant-loop-at
invariant-loop-at l = AreLoopsTo l.said l.at l.loops
