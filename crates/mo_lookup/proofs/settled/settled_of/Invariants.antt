-- What is left is known as well.
use Rattle.std.proofs.Common.{drop}
use Rattle.mo_lookup.specs.steps.Settled.{AreSettled}
use Rattle.mo_lookup.proofs.settled.settled_of.Given as goal

abbrev pub invariant-loop-one : goal.invariant-loop-one
invariant-loop-one l = AreSettled l.s (drop l.one-index l.known)
