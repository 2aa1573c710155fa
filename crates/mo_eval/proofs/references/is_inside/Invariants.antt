use Rattle.std.proofs.Common.{◌≡◌, drop}
use Rattle.mo_eval.specs.References.{is_inside}
use Rattle.mo_eval.specs.steps.Selecting.{inside_or, selections_seen}
use Rattle.mo_eval.proofs.references.is_inside.Given as goal

abbrev pub invariant-loop-selection : goal.invariant-loop-selection
invariant-loop-selection l = inside_or l.inside (selections_seen (drop l.selection-index l.chosen)) ≡ is_inside (selections_seen l.chosen)
