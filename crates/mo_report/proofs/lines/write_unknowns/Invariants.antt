use Rattle.std.proofs.Common.{◌≡◌, ◌++◌, string_bytes}
use Rattle.mo_report.specs.Lines.{lines_below, unknown_line}
use Rattle.mo_report.proofs.lines.write_unknowns.Given as goal

abbrev pub invariant-loop-at : goal.invariant-loop-at
invariant-loop-at l = string_bytes l.out ≡ string_bytes l.initial.out ++ lines_below (unknown_line l.names l.offsets) l.at
