use Rattle.std.proofs.Common.{◌≡◌}
use Rattle.mo_incidence.specs.Signature.{equations}
use Rattle.mo_pantelides.proofs.Raises.{IsRaisedTo}
use Rattle.mo_pantelides.proofs.raise.raise.Given as goal

abbrev pub invariant-loop-t : goal.invariant-loop-t
invariant-loop-t g l = record {
  raised : IsRaisedTo (equations l.inc) l.inc.unknowns l.matching.owner.items l.fn.search.queue.items l.fn.search.mark.items l.initial.c l.initial.d l.search.mark.items l.c l.d l.t l.tail;
  queue : l.search.queue ≡ l.fn.search.queue;
  parent : l.search.parent ≡ l.fn.search.parent;
}
