use Rattle.std.proofs.Common.{◌≡◌, ◌+◌, ◌-◌, ◌*◌}
use Rattle.mo_incidence.specs.Signature.{equations, entries}
use Rattle.mo_pantelides.specs.steps.Fixing.{IsSameFixing}
use Rattle.mo_pantelides.specs.steps.Seeking.{SeeksBy, looked}
use Rattle.mo_pantelides.proofs.seek.seek.Given as goal

abbrev pub invariant-on : goal.invariant-on
invariant-on g l = record {
  seeking : SeeksBy l.inc l.priced l.fixing l.matching l.search l.root l.at.head l.at.loose l.at.tail;
  same : IsSameFixing l.fn.fixing l.fixing;
  cost : l.steps + looked l.inc l.fn.fixing.fixed.now l.fn.search.mark.items ≡ l.fn.steps + looked l.inc l.fixing.fixed.now l.search.mark.items;
}

abbrev pub decreases-on : goal.decreases-on
decreases-on g l = 2 * (entries l.inc - looked l.inc l.fixing.fixed.now l.search.mark.items) + l.at.tail + (equations l.inc - l.at.head)
