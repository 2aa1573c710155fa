use Rattle.std.proofs.Common.{◌≡◌, take}
use Rattle.mo_eval.specs.References.{kept_dims}
use Rattle.mo_eval.specs.steps.Selecting.{selections_seen}
use Rattle.mo_eval.proofs.references.kept_dims.Given as goal

abbrev pub invariant-loop-selection : goal.invariant-loop-selection
invariant-loop-selection l = l.made ≡ kept_dims (selections_seen (take l.selection-index l.chosen))
