-- What was made and what is left to be made is all.
use Rattle.std.proofs.Common.{length}
use Rattle.mo_lookup.specs.steps.Settled.{AreOwned}
use Rattle.mo_lookup.proofs.OwnedWalks.{Owning}
use Rattle.mo_lookup.proofs.owning.through_owned.Given as goal

abbrev pub invariant-loop-base : goal.invariant-loop-base
invariant-loop-base l = record {
  so_far : Owning l.initial.s l.s l.fn.frame.0 l.through l.rest l.out l.around.0;
  made : AreOwned l.s l.made;
}

abbrev pub decreases-loop-base : goal.decreases-loop-base
decreases-loop-base l = length l.rest
