-- A power whose exponent is no such literal.
use Rattle.std.proofs.Common.{◌∙◌, ap, sym}
use Rattle.std.proofs.lemmas.Result.{IfOk-weaker}
use Rattle.mo_symdiff.specs.Derivative.{power_by}
use Rattle.mo_symdiff.proofs.powers.slope_of_power.Goals as goal

pub returns-in-None : goal.returns-in-None
returns-in-None c =
    IfOk-weaker c.slope_of_general_power.result _ _
    (λ made general vars base exponent.
    general vars base exponent ∙ ap (λ o. power_by vars o (c.args.base.now, c.args.p) (c.args.exponent.now, c.args.q)) (sym c.in-None.is ∙ c.literal.ensures.literal))
    c.slope_of_general_power.ensures
