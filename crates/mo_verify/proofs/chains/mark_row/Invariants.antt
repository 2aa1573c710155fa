use Rattle.std.proofs.Common.{◌+◌, length}
use Rattle.mo_verify.specs.Finding.{printed_in, unmarked}
use Rattle.mo_verify.proofs.Chaining.{IsRowTo}
use Rattle.mo_verify.proofs.chains.mark_row.Given as goal

abbrev pub invariant-loop-n : goal.invariant-loop-n
invariant-loop-n l = IsRowTo l.inc (printed_in l.claims) l.marks l.queue.items l._head l.k l.n (unmarked l.initial.marks + length l.initial.queue.items)
