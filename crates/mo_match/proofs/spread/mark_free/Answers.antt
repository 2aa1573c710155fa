use Rattle.std.proofs.Common.{arith}
use Rattle.mo_match.proofs.SpreadLemmas.{mark_room, mark_spread, free_next}
use Rattle.mo_match.proofs.spread.mark_free.Goals as goal

pub mark_unknown-tail-requires-clause-room : goal.mark_unknown-tail-requires-clause-room
mark_unknown-tail-requires-clause-room c = λ unmarked.
    mark_room c.args.inc.now c.args.owner.now c.loop-j.reached c.loop-j.order c.loop-j.tail c.loop-j.j c.loop-j.invariant.spread
    (omega (arith, c.loop-j.auto.j), omega (arith, c.unknowns-j-end.ensures)) unmarked

pub loop-j-preserved : goal.loop-j-preserved
loop-j-preserved c = record {
  spread = mark_spread _ _ _ _ _ _ _ _ _ c.loop-j.invariant.spread c.mark_unknown-tail.ensures (omega (arith, c.loop-j.auto.j), omega (arith, c.unknowns-j-end.ensures))
      (λ some. absurd (some c.if-owner-j-ne0.false));
  free = free_next _ _ _ _ _ _ _ _ _ c.loop-j.invariant.free c.mark_unknown-tail.ensures (omega (arith, c.unknowns-j-end.ensures, c.loop-j.invariant.spread.reached_all));
}
