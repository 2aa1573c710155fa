use Rattle.std.proofs.Common.{◌<◌, length, ◌∙◌, arith, get_or-set_same}
use Rattle.mo_match.proofs.Trees.{tree_room, tree_push, root_grows, closed_kept, grows_on, head_next, cost_within, cost_all, cost_next}
use Rattle.mo_match.proofs.graph.Graph.search.Goals as goal

pub begin-requires-clause-base : goal.begin-requires-clause-base
begin-requires-clause-base g c =
    let room = tree_room _ _ _ _ _ _ _ _ c.requires.tree _ c.requires.root.0 c.requires.root.2 in
    (omega (arith, c.requires.tree.queue_all), omega (arith, c.requires.tree.parent_all), omega (arith, c.requires.sound.few_equations))

pub loop-head-init : goal.loop-head-init
loop-head-init g c =
    let room = tree_room _ _ _ _ _ _ _ _ c.requires.tree _ c.requires.root.0 c.requires.root.2 in
    let inside : c.args.base < length c.args.search.now.queue.items = omega (arith, c.requires.tree.queue_all) in
    rw (c.begin.ensures.queue, c.begin.ensures.parent, c.begin.ensures.mark) (record {
      tree = tree_push _ _ _ _ _ _ _ _ c.requires.tree _ c.requires.root.0 c.requires.root.2 c.args.base (λ some. absurd (some c.requires.root.1)) (λ l. absurd (omega arith));
      grows = root_grows _ _ _ _ c.requires.root.2;
      closed = closed_kept _ (omega arith) (root_grows _ _ _ _ c.requires.root.2) c.requires.closed;
      first = get_or-set_same _ _ _ 0 inside;
      within = (omega arith, omega arith, omega arith);
      cost = omega arith;
    })

pub returns-in-Some-clause-grows : goal.returns-in-Some-clause-grows
returns-in-Some-clause-grows g c = grows_on c.loop-head.invariant.grows c.scan_row-grown.ensures.grows

pub returns-in-Some-clause-cost : goal.returns-in-Some-clause-cost
returns-in-Some-clause-cost g c =
    cost_within _ c.loop-head.head _ _ _ c.loop-head.invariant.tree c.loop-head-test.true c.loop-head.invariant.cost c.scan_row-grown.ensures.cost

pub loop-head-preserved : goal.loop-head-preserved
loop-head-preserved g c =
    let step = c.scan_row-grown.ensures in
    record {
      tree = step.tree;
      grows = grows_on c.loop-head.invariant.grows step.grows;
      closed = head_next _ step.grows c.loop-head-test.true c.loop-head.invariant.closed c.in-None.is step.searched;
      first = step.grows.before c.args.base (omega arith) ∙ c.loop-head.invariant.first;
      within = (omega arith, omega (arith, step.grows.more), omega (arith, step.grows.more));
      cost = cost_next c.args.self.now.signature c.loop-head.search.queue.items c.scan_row-grown.new.search.queue.items c.loop-head.head _ _ _
          (λ s l. step.grows.before s (omega arith)) c.loop-head.invariant.cost step.cost;
    }

pub returns-clause-cost : goal.returns-clause-cost
returns-clause-cost g c = cost_all _ c.loop-head.head _ _ c.loop-head.invariant.tree c.loop-head.invariant.within.1 c.loop-head.invariant.cost
