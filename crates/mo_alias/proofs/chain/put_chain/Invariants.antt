use Rattle.std.proofs.Common.{length}
use Rattle.mo_alias.specs.steps.Stretches.{AreLeft, AreOpen, weight}
use Rattle.mo_alias.proofs.chain.put_chain.Given as goal

abbrev pub invariant-loop-stretch : goal.invariant-loop-stretch
invariant-loop-stretch l = AreOpen l.trees (length l._said) l.waiting.items × AreLeft l._said l.fn.whole l.initial.equations l.waiting.items l.equations

abbrev pub decreases-loop-stretch : goal.decreases-loop-stretch
decreases-loop-stretch l = weight l.waiting.items
