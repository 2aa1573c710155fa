use Rattle.mo_symdiff.proofs.Weighing.{variable_sized}
use Rattle.mo_symdiff.proofs.sizes.of_variable.Goals as goal

pub returns : goal.returns
returns c =
    variable_sized c.args.vars.now c.args.measure c.args.variable c.args.order _ _ _ _ _ _ _ c.name_weight-here.ensures c.saturating_add-later.ensures c.name_weight-next.ensures c.moves-moving.ensures
    c.settled.ensures.still c.settled.ensures.whole c.settled.ensures.slope
