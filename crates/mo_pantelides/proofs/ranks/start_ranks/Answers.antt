use Rattle.std.proofs.Common.{◌<◌, arith}
use Rattle.mo_incidence.specs.Signature.{equations}
use Rattle.mo_pantelides.proofs.Ranking.{start_room, start_next}
use Rattle.mo_pantelides.proofs.ranks.start_ranks.Goals as goal

pub bounds-queue-tail : goal.bounds-queue-tail
bounds-queue-tail c =
    let inside : c.loop-i.i < equations c.args.inc.now = omega (arith, c.equations-i-end.ensures.count) in
    omega (arith, start_room _ _ _ _ _ _ _ _ c.loop-i.invariant inside, c.loop-i.invariant.ranking.queue_all)

pub loop-i-preserved : goal.loop-i-preserved
loop-i-preserved c =
    let inside : c.loop-i.i < equations c.args.inc.now = omega (arith, c.equations-i-end.ensures.count) in
    start_next _ _ _ _ _ _ _ _ c.loop-i.invariant inside c.if-c-i-ne0.false
