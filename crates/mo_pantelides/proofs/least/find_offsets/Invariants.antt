use Rattle.std.proofs.Common.{◌≢◌, ◌≤◌, ◌<◌, ◌+◌, ◌*◌, ℕ, slice_index}
use Rattle.mo_incidence.specs.Signature.{equations, entries}
use Rattle.mo_incidence.specs.Offsets.{BoundsOrders, sum_unknowns}
use Rattle.mo_match.specs.Searching.{Uses, tight_of, IsMatching, IsTree}
use Rattle.mo_pantelides.specs.steps.Raising.{AreRising, gap}
use Rattle.mo_pantelides.proofs.least.find_offsets.Given as goal

abbrev pub invariant-loop-root : goal.invariant-loop-root
invariant-loop-root g l = record {
  rising : AreRising l.inc l.c l.d;
  matching : IsMatching (Uses (tight_of l.inc l.c l.d)) (equations l.inc) l.inc.unknowns l.matching.pairs.items l.matching.owner.items;
  tree : IsTree (Uses (tight_of l.inc l.c l.d)) (equations l.inc) l.matching.pairs.items l.search.queue.items l.search.parent.items l.search.mark.items 0 0;
  settled : (i : ℕ) → i < l.root → slice_index l.matching.pairs.items i ≢ 0;
  cost : (h : ℕ → ℕ) → BoundsOrders l.inc h → l.steps + gap (equations l.inc) l.inc.unknowns l.c l.d * entries l.inc ≤ l.fn.steps + (l.root + sum_unknowns l.inc h + 1) * entries l.inc;
}
