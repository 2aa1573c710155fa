use Rattle.std.proofs.Common.{◌≡◌, ℕ, arith, subst}
use Rattle.mo_incidence.specs.Offsets.{by_place, by_number}
use Rattle.mo_pantelides.specs.steps.Ranks.{IsClosedTo}
use Rattle.mo_pantelides.proofs.Ranking.{ranking_next, all_ranked, ranked}
use Rattle.mo_pantelides.proofs.ranks.find_ranks.Goals as goal

pub loop-head-preserved : goal.loop-head-preserved
loop-head-preserved c =
    let step = c.rank_row-tail.ensures in
    ranking_next _ _ _ _ _ _ _ _ _ _ _ c.loop-head.invariant c.loop-head-test.true step.on step.ranking step.near step.done

pub returns : goal.returns
returns c =
    let at : c.loop-head.head ≡ c.loop-head.tail = omega (arith, c.loop-head.invariant.within) in
    let closed = subst (λ (h : ℕ). IsClosedTo c.args.inc.now (by_place c.args.paired.now.c.now) (by_number c.args.paired.now.d.now) (by_place c.args.paired.now.pairs.now) c.loop-head.queue c.loop-head.mark h) at c.loop-head.invariant.closed in
    record {
      ranked = λ i l. (
        all_ranked _ _ _ _ _ _ _ _ c.equations-equations.ensures.sound c.requires.least c.requires.tight c.requires.all c.requires.matching c.loop-head.invariant.ranking closed c.loop-head.invariant.zeros i l,
        ranked _ _ _ _ _ _ _ _ c.equations-equations.ensures.sound c.requires.least c.requires.tight c.requires.all c.requires.matching c.loop-head.invariant.ranking closed c.loop-head.invariant.zeros i l,
      );
    }
