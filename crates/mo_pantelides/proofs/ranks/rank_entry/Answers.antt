use Rattle.std.proofs.Common.{arith}
use Rattle.mo_pantelides.proofs.Ranking.{rank_room, enter_ranking, leads_candidate}
use Rattle.mo_pantelides.proofs.ranks.rank_entry.Goals as goal

pub bounds-queue-tail : goal.bounds-queue-tail
bounds-queue-tail c = omega (arith, rank_room _ _ _ _ _ _ _ c.requires.ranking _ c.in-Some.ensures.some.0 c.if-mark-equation-ne0.false, c.requires.ranking.queue_all)

pub returns-else-mark-equation-ne0-clause-ranking : goal.returns-else-mark-equation-ne0-clause-ranking
returns-else-mark-equation-ne0-clause-ranking c =
    enter_ranking _ _ _ _ _ _ _ c.requires.ranking c.args.head c.requires.head c.requires.near _ c.in-Some.ensures.some.0 c.if-mark-equation-ne0.false
    (leads_candidate _ _ _ _ _ c.args.n _ (c.requires.ranking.in_range c.args.head c.requires.head) c.requires.n c.in-Some.ensures.some.1)
