use Rattle.std.proofs.Common.{◌+◌, ◌-◌, length}
use Rattle.mo_incidence.specs.Signature.{equations}
use Rattle.mo_verify.specs.Finding.{printed_in, IsMarkedTo, unmarked}
use Rattle.mo_verify.proofs.chains.mark_chained.Given as goal

abbrev pub invariant-heads : goal.invariant-heads
invariant-heads l = IsMarkedTo l.inc (printed_in l.claims) l.marks l.queue.items l.head (equations l.inc)

abbrev pub decreases-heads : goal.decreases-heads
decreases-heads l = unmarked l.marks + length l.queue.items - l.head
