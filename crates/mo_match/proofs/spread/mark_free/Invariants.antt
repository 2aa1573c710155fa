use Rattle.mo_match.specs.steps.Spreading.{IsSpread, AreFreeMarked}
use Rattle.mo_match.proofs.spread.mark_free.Given as goal

abbrev pub invariant-loop-j : goal.invariant-loop-j
invariant-loop-j l = record {
  spread : IsSpread l.inc l.owner l.reached l.order l.tail;
  free : AreFreeMarked l.inc l.owner l.reached l.j;
}
