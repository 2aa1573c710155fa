use Rattle.std.proofs.Common.{◌≡◌, ◌≢◌, ℕ, slice_index}
use Rattle.mo_incidence.specs.Signature.{equations}
use Rattle.mo_match.specs.Searching.{Uses}
use Rattle.mo_match.proofs.Moving.{IsWalkingBack, Comes}
use Rattle.mo_match.proofs.graph.Graph.hand_on.Given as goal

abbrev pub invariant-back : goal.invariant-back
invariant-back g l = record {
  walk : IsWalkingBack (Uses l.self) (equations l.self.signature) l.self.signature.unknowns l.initial.matching.pairs.items l.matching.pairs.items l.matching.owner.items l.search.queue.items l.base l.tail l.place l.unknown;
  bare : (x : ℕ) → x ≢ slice_index l.search.queue.items l.base → slice_index l.initial.matching.pairs.items x ≡ 0 → slice_index l.matching.pairs.items x ≡ 0;
  comes : Comes l.initial.matching.pairs.items l.search.queue.items l.search.parent.items l.tail l.fn.free.place l.fn.free.unknown l.place l.unknown;
}

abbrev pub decreases-back : goal.decreases-back
decreases-back g l = l.place
