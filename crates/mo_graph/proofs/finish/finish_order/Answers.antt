use Rattle.std.proofs.Common.{◌≡◌, length, arith, refl}
use Rattle.mo_graph.proofs.Walks.{walk_begin, walk_over}
use Rattle.mo_graph.proofs.finish.finish_order.Goals as goal

pub loop-root-init : goal.loop-root-init
loop-root-init c = record {
  walk = walk_begin _ _ _ _ _ _ _ _ c.requires.graph c.requires.threads c.requires.sizes.0 refl c.requires.sizes.1 c.requires.sizes.2 c.requires.clear;
  marked = λ v l. absurd (omega arith);
}

pub returns : goal.returns
returns c =
    let same : length c.loop-root.mark ≡ length c.args.mark.now = c.loop-root.auto.mark in
    rw (← same) (walk_over _ _ _ _ _ _ _ _ _ _ c.loop-root.invariant.walk.1 refl (λ v l. c.loop-root.invariant.marked v (omega arith)))
