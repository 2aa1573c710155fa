use Rattle.mo_select.specs.steps.Growing.{IsGrownTo}
use Rattle.mo_select.proofs.grow.grow_all.Given as goal

abbrev pub invariant-loop-root : goal.invariant-loop-root
invariant-loop-root l = IsGrownTo l.graph l.matching.pairs.items l.matching.owner.items l.search.queue.items l.search.parent.items l.search.mark.items l.base l.root
