use Rattle.std.proofs.Common.{◌≡◌, ◌++◌, string_bytes, take, flat_map}
use Rattle.mo_report.specs.Lines.{in_line}
use Rattle.mo_report.proofs.lines.write_in_lines.Given as goal

abbrev pub invariant-loop-equation : goal.invariant-loop-equation
invariant-loop-equation l = string_bytes l.out ≡ string_bytes l.initial.out ++ flat_map in_line (take l.equation-index l.equations)
