-- The text so far.
use Rattle.std.proofs.Common.{◌≡◌, ◌++◌, string_bytes}
use Rattle.std.specs.Prelude.{codes}
use Rattle.mo_flat.proofs.Printing.{repeated}
use Rattle.mo_report.specs.Lines.{unknown_name}
use Rattle.mo_json.proofs.parts.derivative_text.Given as goal

abbrev pub invariant-loop-opened : goal.invariant-loop-opened
invariant-loop-opened l = string_bytes l.out ≡ repeated l._opened (codes "der(")

abbrev pub invariant-loop-closed : goal.invariant-loop-closed
invariant-loop-closed l = string_bytes l.out ≡ (repeated l.order (codes "der(") ++ unknown_name l.names l.unknown) ++ repeated l._closed (codes ")")
