use Rattle.mo_verify.specs.Faults.{HaveOrders}
use Rattle.mo_verify.specs.Finding.{printed_in}
use Rattle.mo_verify.proofs.faults.wrong_order.Given as goal

abbrev pub invariant-loop-i : goal.invariant-loop-i
invariant-loop-i l = HaveOrders l.inc (printed_in l.claims) l.i
