use Rattle.std.proofs.Common.{take}
use Rattle.mo_select.specs.steps.Depths.{IsNoted}
use Rattle.mo_select.proofs.states.note_stage.Given as goal

abbrev pub invariant-loop-pair : goal.invariant-loop-pair
invariant-loop-pair l = IsNoted (take l.pair-index l.chosen) l.stage l.fn.depth l.depth
