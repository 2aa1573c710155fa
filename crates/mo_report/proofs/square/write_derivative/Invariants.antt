use Rattle.std.proofs.Common.{◌≡◌, ◌++◌, string_bytes}
use Rattle.std.specs.Prelude.{codes}
use Rattle.mo_flat.proofs.Printing.{repeated}
use Rattle.mo_report.proofs.square.write_derivative.Given as goal

abbrev pub invariant-loop-opened : goal.invariant-loop-opened
invariant-loop-opened l = string_bytes l.out ≡ string_bytes l.initial.out ++ repeated l._opened (codes "der(")

abbrev pub invariant-loop-closed : goal.invariant-loop-closed
invariant-loop-closed l = string_bytes l.out ≡ string_bytes l.initial.out ++ repeated l._closed (codes ")")
