use Rattle.std.proofs.Common.{◌∙◌, ap, sym, rules, w64}
use Rattle.mo_symdiff.specs.Derivative.{derived, literal_power, power_by}
use Rattle.mo_symdiff.specs.Weights.{capped, weigh}
use Rattle.mo_symdiff.proofs.Weighing.{passed_on}
use mir.Val.{SFits}
use Rattle.mo_symdiff.proofs.sizes.power_weight.Goals as goal

pub returns-in-Some : goal.returns-in-Some
returns-in-Some c vars base h k =
    let exponent = c.args.exponent.now in
    let fits : SFits w64 c.in-Some.n = search rules in
    passed_on (λ z. capped (weigh vars c.args.measure (literal_power z (base, derived vars base)))) c.in-Some.n _ fits (c.literal_power_weight.ensures vars base h) ∙ ap (λ o. capped (weigh vars c.args.measure (power_by vars o (base, derived vars base) (exponent, derived vars exponent)))) (sym c.in-Some.is ∙ c.literal.ensures.literal)

pub returns-in-None : goal.returns-in-None
returns-in-None c vars base h k =
    let exponent = c.args.exponent.now in
    c.general_power_weight.ensures vars base exponent h k ∙ ap (λ o. capped (weigh vars c.args.measure (power_by vars o (base, derived vars base) (exponent, derived vars exponent)))) (sym c.in-None.is ∙ c.literal.ensures.literal)
