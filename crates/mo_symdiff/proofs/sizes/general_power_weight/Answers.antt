use Rattle.mo_symdiff.specs.Derivative.{derived}
use Rattle.mo_symdiff.proofs.Weighing.{general_power_weighs}
use Rattle.mo_symdiff.proofs.sizes.general_power_weight.Goals as goal

pub returns : goal.returns
returns c vars base exponent h k =
    let by_base = c.base_term_weight-by_base.ensures vars base exponent h k in
    let by_exponent = c.exponent_term_weight-by_exponent.ensures vars base exponent h k in
    general_power_weighs vars c.args.measure base (derived vars base) exponent (derived vars exponent) _ _ _ _ _ _ _ k.still_is h.still_is by_base by_exponent
    (c.add-by_both.ensures _ _ c.node_weight.ensures.stops (c.add.ensures _ _ by_base by_exponent)) c.choose.ensures c.choose-2.ensures
