use Rattle.std.proofs.Common.{◌≡◌, ◌+◌, ◌++◌, drop}
use Rattle.std.specs.Prelude.{sum_by}
use Rattle.mo_symdiff.specs.Reduced.{bytes_of, nodes_of, reduced_lines}
use Rattle.mo_symdiff.proofs.reduce.model_lines.Given as goal

abbrev pub invariant-loop-i : goal.invariant-loop-i
invariant-loop-i l =
    record {
      lines : l.made ++ reduced_lines l.vars (drop l.i l.equations) (drop l.i l.counts) ≡ reduced_lines l.vars l.equations l.counts;
      nodes : l.left.nodes + sum_by nodes_of l.made ≡ l.fn.room.nodes;
      bytes : l.left.bytes + sum_by (bytes_of l.vars) l.made ≡ l.fn.room.bytes;
    }
