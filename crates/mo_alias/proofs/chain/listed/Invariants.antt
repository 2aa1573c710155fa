use Rattle.std.proofs.Common.{length}
use Rattle.mo_alias.specs.steps.Listing.{IsListedTo}
use Rattle.mo_alias.proofs.chain.listed.Given as goal

abbrev pub invariant-loop-number : goal.invariant-loop-number
invariant-loop-number l = IsListedTo l.initial.set l.set l.made

abbrev pub decreases-loop-number : goal.decreases-loop-number
decreases-loop-number l = length l.set.keys
