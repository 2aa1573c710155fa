use Rattle.std.proofs.Common.{◌≡◌, ◌++◌, string_bytes, take, flat_map}
use Rattle.mo_report.specs.Lines.{dummy_line}
use Rattle.mo_report.proofs.square.write_dummies.Given as goal

abbrev pub invariant-loop-dummy : goal.invariant-loop-dummy
invariant-loop-dummy l = string_bytes l.out ≡ string_bytes l.initial.out ++ flat_map (dummy_line l.names) (take l.dummy-index l.dummies)
