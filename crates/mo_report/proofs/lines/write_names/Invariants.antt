use Rattle.std.proofs.Common.{◌≡◌, ◌++◌, string_bytes, take, flat_map}
use Rattle.mo_report.specs.Lines.{name_line}
use Rattle.mo_report.proofs.lines.write_names.Given as goal

abbrev pub invariant-loop-unknown : goal.invariant-loop-unknown
invariant-loop-unknown l = string_bytes l.out ≡ string_bytes l.initial.out ++ flat_map (name_line l.word l.names) (take l.unknown-index l.unknowns)
