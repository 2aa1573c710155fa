-- What is left was entered so as well.
use Rattle.std.proofs.Common.{drop}
use Rattle.mo_lookup.specs.steps.Settled.{AreOwned}
use Rattle.mo_lookup.proofs.owning.owned_of.Given as goal

abbrev pub invariant-loop-one : goal.invariant-loop-one
invariant-loop-one l = AreOwned l.s (drop l.one-index l.made)
