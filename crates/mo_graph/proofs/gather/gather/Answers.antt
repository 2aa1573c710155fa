use Rattle.std.proofs.Common.{◌≡◌, length, arith, refl, sym}
use Rattle.mo_graph.proofs.Gathers.{gather_begin, gather_over}
use Rattle.mo_graph.proofs.gather.gather.Goals as goal

pub loop-left-init : goal.loop-left-init
loop-left-init c = record {
  gathered = gather_begin _ _ _ _ _ _ _ refl c.requires.sizes.1 c.requires.clear;
  left = omega arith;
}

pub returns : goal.returns
returns c =
    let same : length c.args.class.now ≡ length c.loop-left.class = sym c.loop-left.auto.class in
    let finished = rw same at c.requires.finished in
    let graph = rw same at c.requires.graph in
    rw same (gather_over _ _ _ _ _ finished _ _ _ _ _ _ _ c.loop-left.invariant.gathered graph (omega arith) refl)
