use Rattle.mo_eval.specs.steps.Selecting.{selections_seen}
use Rattle.mo_eval.proofs.Handing.{inside_from}
use Rattle.mo_eval.proofs.references.is_inside.Goals as goal

pub loop-selection-init : goal.loop-selection-init
loop-selection-init c = inside_from (selections_seen c.args.chosen.now)
