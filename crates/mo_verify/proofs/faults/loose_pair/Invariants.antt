use Rattle.mo_verify.specs.Faults.{MeetTo}
use Rattle.mo_verify.specs.Finding.{printed_in}
use Rattle.mo_verify.proofs.faults.loose_pair.Given as goal

abbrev pub invariant-loop-i : goal.invariant-loop-i
invariant-loop-i l = MeetTo (printed_in l.claims) l.i
