use Rattle.mo_certify.specs.Reasons.{AreReasonsBy}
use Rattle.mo_certify.proofs.least.are_reasons.Given as goal

abbrev pub invariant-loop-i : goal.invariant-loop-i
invariant-loop-i l = AreReasonsBy l.inc l.c l.d l.pairs l.from l.i
