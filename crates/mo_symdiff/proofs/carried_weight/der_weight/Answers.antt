use Rattle.mo_symdiff.proofs.CarriedWeights.{carried_Der}
use Rattle.mo_symdiff.proofs.carried_weight.der_weight.Goals as goal

pub returns : goal.returns
returns c = rw (carried_Der c.args.vars.now c.args.measure c.args.inner.now) (rw c.in_ok-inner.ensures at c.size_of.ensures.slope_is)
