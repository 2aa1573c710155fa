use Rattle.mo_verify.specs.Faults.{AreChainedTo}
use Rattle.mo_verify.specs.Finding.{printed_in}
use Rattle.mo_verify.proofs.chains.first_unmarked.Given as goal

abbrev pub invariant-loop-i : goal.invariant-loop-i
invariant-loop-i l = AreChainedTo l._inc (printed_in l.claims) l.i
