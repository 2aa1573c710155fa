use Rattle.std.proofs.Common.{◌≢◌, ◌<◌, ℕ, length, slice_index}
use Rattle.mo_graph.specs.steps.Finishing.{Walks}
use Rattle.mo_graph.proofs.finish.finish_order.Given as goal

abbrev pub invariant-loop-root : goal.invariant-loop-root
invariant-loop-root l = record {
  walk : Walks (length l.mark) l.edges.sources.now l.edges.targets.now l.path l.mark l.cursor l.order 0 l.count;
  marked : (v : ℕ) → v < l.root → slice_index l.mark v ≢ 0;
}
