use Rattle.std.proofs.Common.{◌≤◌, ◌-◌, suc}
use Rattle.mo_match.specs.steps.Spreading.{IsSpread, AreFreeMarked, IsSpreadTo}
use Rattle.mo_match.proofs.spread.find_loose.Given as goal

abbrev pub invariant-loop-head : goal.invariant-loop-head
invariant-loop-head l = record {
  spread : IsSpread l.inc l.held.owner.now l.reached l.order l.tail;
  free : AreFreeMarked l.inc l.held.owner.now l.reached (suc l.inc.unknowns);
  closed : IsSpreadTo l.inc l.held.pairs.now l.reached l.order l.head;
  within : l.head ≤ l.tail;
}

abbrev pub decreases-loop-head : goal.decreases-loop-head
decreases-loop-head l = l.inc.unknowns - l.head
