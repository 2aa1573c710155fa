use Rattle.std.proofs.Common.{◌≡◌, ◌≢◌, ◌≤◌, ◌+◌, ◌*◌, ℕ, slice_index}
use Rattle.mo_incidence.specs.Signature.{equations, entries}
use Rattle.mo_match.specs.Searching.{Uses, tight_of, IsMatching, IsTree}
use Rattle.mo_pantelides.specs.steps.Raising.{AreRising, gap}
use Rattle.mo_pantelides.proofs.least.settle.Given as goal

abbrev pub invariant-again : goal.invariant-again
invariant-again g l = record {
  rising : AreRising l.inc l.c l.d;
  matching : IsMatching (Uses (tight_of l.inc l.c l.d)) (equations l.inc) l.inc.unknowns l.matching.pairs.items l.matching.owner.items;
  tree : IsTree (Uses (tight_of l.inc l.c l.d)) (equations l.inc) l.matching.pairs.items l.search.queue.items l.search.parent.items l.search.mark.items 0 0;
  bare : slice_index l.matching.pairs.items l.root ≡ 0;
  kept : (x : ℕ) → slice_index l.initial.matching.pairs.items x ≢ 0 → slice_index l.matching.pairs.items x ≢ 0;
  cost : l.steps + gap (equations l.inc) l.inc.unknowns l.c l.d * entries l.inc ≤ l.initial.steps + gap (equations l.inc) l.inc.unknowns l.initial.c l.initial.d * entries l.inc;
}

abbrev pub decreases-again : goal.decreases-again
decreases-again g l = gap (equations l.inc) l.inc.unknowns l.c l.d
