use Rattle.std.proofs.Common.{◌≤◌, ◌+◌, ◌*◌}
use Rattle.mo_incidence.specs.Signature.{equations, entries}
use Rattle.mo_match.specs.Searching.{Uses, tight_of, IsTree}
use Rattle.mo_pantelides.specs.steps.Fixing.{FixesBy, IsSameFixing}
use Rattle.mo_pantelides.proofs.transversal.fix_all.Given as goal

abbrev pub invariant-loop-root : goal.invariant-loop-root
invariant-loop-root g l = record {
  fixed : FixesBy l.inc l.priced l.fixing l.matching l.root (equations l.inc);
  tree : IsTree (Uses (tight_of l.inc l.priced.c.now l.fixing.left.now)) (equations l.inc) l.matching.pairs.items l.search.queue.items l.search.parent.items l.search.mark.items 0 0;
  same : IsSameFixing l.initial.fixing l.fixing;
  cost : l.steps ≤ l.initial.steps + l.root * entries l.inc;
}
