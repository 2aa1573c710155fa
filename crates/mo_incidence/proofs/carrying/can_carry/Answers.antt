use Rattle.std.proofs.Common.{◌∙◌, sym}
use Rattle.mo_symdiff.proofs.SigmaGiven.{carries_apart}
use Rattle.mo_incidence.proofs.carrying.can_carry.Goals as goal

pub returns : goal.returns
returns c = c.apart.ensures ∙ sym (carries_apart c.args.vars.now c.args.e.now)
