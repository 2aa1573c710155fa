use Rattle.std.proofs.Common.{◌≡◌, ◌++◌, string_bytes, take, flat_map}
use Rattle.mo_report.specs.Lines.{reason_line}
use Rattle.mo_report.proofs.square.write_reasons.Given as goal

abbrev pub invariant-loop-reason : goal.invariant-loop-reason
invariant-loop-reason l = string_bytes l.out ≡ string_bytes l.initial.out ++ flat_map reason_line (take l.reason-index l.reasons)
