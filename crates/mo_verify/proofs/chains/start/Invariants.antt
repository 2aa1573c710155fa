use Rattle.mo_verify.specs.Finding.{printed_in}
use Rattle.mo_verify.proofs.Chaining.{IsStartedTo}
use Rattle.mo_verify.proofs.chains.start.Given as goal

abbrev pub invariant-loop-i : goal.invariant-loop-i
invariant-loop-i l = IsStartedTo l.inc (printed_in l.claims) l.marks l.queue.items l.i
