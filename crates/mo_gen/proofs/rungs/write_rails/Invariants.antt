use Rattle.std.proofs.Common.{◌≡◌, ◌++◌, string_bytes}
use Rattle.mo_gen.specs.Ladder.{lines_to, rail_line}
use Rattle.mo_gen.proofs.rungs.write_rails.Given as goal

abbrev pub invariant-loop-k : goal.invariant-loop-k
invariant-loop-k l = string_bytes l.out ≡ string_bytes l.initial.out ++ lines_to rail_line l.k
