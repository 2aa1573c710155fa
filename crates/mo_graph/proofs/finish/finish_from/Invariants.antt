use Rattle.std.proofs.Common.{◌≢◌, ◌+◌, ◌*◌, ℕ, length, slice_index}
use Rattle.mo_graph.specs.steps.Finishing.{Walks, total, unmarked}
use Rattle.mo_graph.proofs.finish.finish_from.Given as goal

abbrev pub invariant-loop-top : goal.invariant-loop-top
invariant-loop-top l = record {
  walk : Walks (length l.mark) l.edges.sources.now l.edges.targets.now l.path l.mark l.cursor l.order l.top l.count;
  root : slice_index l.mark l.root ≢ 0;
  kept : (v : ℕ) → slice_index l.fn.mark v ≢ 0 → slice_index l.mark v ≢ 0;
}

abbrev pub decreases-loop-top : goal.decreases-loop-top
decreases-loop-top l = total (length l.mark) l.cursor + 2 * unmarked (length l.mark) l.mark + l.top
