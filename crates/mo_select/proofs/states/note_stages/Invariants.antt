use Rattle.std.proofs.Common.{length}
use Rattle.mo_select.specs.steps.Depths.{AreDepths}
use Rattle.mo_select.proofs.states.note_stages.Given as goal

abbrev pub invariant-loop-k : goal.invariant-loop-k
invariant-loop-k l = AreDepths l.stages (length l.fn.depth) l.k l.depth
