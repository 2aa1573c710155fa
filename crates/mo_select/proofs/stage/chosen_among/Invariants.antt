use Rattle.std.proofs.Common.{◌≡◌, ◌++◌, drop}
use Rattle.mo_select.specs.Selection.{chosen_of}
use Rattle.mo_select.specs.steps.Staging.{taken}
use Rattle.mo_select.proofs.stage.chosen_among.Given as goal

abbrev pub invariant-loop-candidate : goal.invariant-loop-candidate
invariant-loop-candidate l = l.chosen ++ chosen_of l.active (taken l.rank l.pairs) (drop l.candidate-index l.candidates) ≡ chosen_of l.active (taken l.rank l.pairs) l.candidates
