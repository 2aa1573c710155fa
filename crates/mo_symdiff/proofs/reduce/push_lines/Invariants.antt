use Rattle.std.proofs.Common.{◌≡◌, ◌≤◌, ◌+◌, ◌-◌, ◌++◌}
use Rattle.mo_symdiff.specs.Reduced.{bytes_of, derivatives, nodes_of}
use Rattle.mo_symdiff.proofs.reduce.push_lines.Given as goal

abbrev pub invariant-loop-derivative : goal.invariant-loop-derivative
invariant-loop-derivative l =
    record {
      lines : l.made ++ derivatives l.vars (l.count - l._derivative) l.line ≡ l.initial.made ++ derivatives l.vars l.count l.initial.line;
      nodes : l.left.nodes + nodes_of l.made ≡ l.fn.room.nodes + nodes_of l.initial.made;
      bytes : l.left.bytes + bytes_of l.vars l.made ≡ l.fn.room.bytes + bytes_of l.vars l.initial.made;
      within : l.left.nodes ≤ l.fn.room.nodes;
    }
