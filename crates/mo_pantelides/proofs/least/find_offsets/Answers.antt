use Rattle.std.proofs.Common.{◌∙◌, arith}
use Rattle.mo_match.proofs.Deficit.{matching_none, tree_none}
use Rattle.mo_pantelides.proofs.Starting.{start_rising, start_gap, start_cost, cost_on, settled_next, least_at_end, start_open}
use Rattle.mo_pantelides.proofs.least.find_offsets.Goals as goal

pub loop-root-init : goal.loop-root-init
loop-root-init g c = record {
  rising = start_rising _ _ _ c.clear.ensures c.greatest_orders.ensures.bounds c.greatest_orders.ensures.least;
  matching = matching_none _ _ _ _ _ (c.clear-2.ensures.sizes.0 ∙ c.requires.room.0) (c.clear-2.ensures.sizes.1 ∙ c.requires.room.1) c.clear-2.ensures.pairs c.clear-2.ensures.owner;
  tree = rw (c.clear-3.ensures.kept.0, c.clear-3.ensures.kept.1)
      (tree_none _ _ _ _ _ _ c.requires.room_search.0 c.requires.room_search.1 (c.clear-3.ensures.size ∙ c.requires.room_search.2) c.clear-3.ensures.mark);
  settled = λ i l. absurd (omega arith);
  cost = λ h bound. start_cost _ _ _ _ _ c.greatest_orders.ensures.cost (start_gap _ _ _ c.clear.ensures c.greatest_orders.ensures.bounds c.greatest_orders.ensures.least h bound);
}

pub loop-root-preserved : goal.loop-root-preserved
loop-root-preserved g c =
    let before = c.loop-root.invariant in
    let step = c.settle.ensures in
    record {
      rising = step.rising;
      matching = step.matching;
      tree = step.tree;
      settled = settled_next _ _ c.loop-root.root before.settled step.kept step.gained;
      cost = λ h bound. cost_on _ _ _ _ _ _ c.loop-root.root _ (before.cost h bound) step.cost;
    }

pub returns-clause-least : goal.returns-clause-least
returns-clause-least g c =
    least_at_end _ _ _ c.loop-root.matching.pairs.items c.loop-root.matching.owner.items c.loop-root.invariant.rising c.loop-root.invariant.matching
    (λ i l. c.loop-root.invariant.settled i (omega (arith, c.equations-equations.ensures.count)))

pub returns-clause-open : goal.returns-clause-open
returns-clause-open g c = start_open _ _ _ c.equations-equations.ensures.sound c.loop-root.invariant.rising.small
