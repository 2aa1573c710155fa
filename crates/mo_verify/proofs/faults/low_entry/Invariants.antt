use Rattle.mo_verify.specs.Faults.{FitTo}
use Rattle.mo_verify.specs.Finding.{printed_in}
use Rattle.mo_verify.proofs.faults.low_entry.Given as goal

abbrev pub invariant-loop-i : goal.invariant-loop-i
invariant-loop-i l = FitTo l.inc (printed_in l.claims) l.i 0
