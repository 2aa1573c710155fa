use Rattle.std.proofs.Common.{◌≡◌, ◌+◌, ◌∙◌, arith, subst}
use Rattle.mo_alias.specs.steps.Leasts.{AreGoneBelow}
use Rattle.mo_alias.proofs.Firsts.{firsts_none, gone_none}
use Rattle.mo_alias.proofs.find.gone.Goals as goal

pub loop-at-init : goal.loop-at-init
loop-at-init c =
    (c.in_ok-firsts.ensures.size, λ root sign roots. (firsts_none root sign c.in_ok-firsts.firsts.items c.in_ok-firsts.ensures.none, gone_none root sign c.new-gone.result c.new-gone.ensures))

pub loop-at-preserved : goal.loop-at-preserved
loop-at-preserved c =
    (c.in_ok-take.ensures.size ∙ c.loop-at.invariant.0, λ root sign roots. c.in_ok-take.ensures.taken root sign roots (c.loop-at.invariant.1 root sign roots))

pub returns : goal.returns
returns c =
    let end : c.loop-at.at ≡ c.args.count + 1 = omega (arith, c.loop-at-test.false, c.loop-at.auto.at-end) in
    λ root sign roots. subst (λ w. AreGoneBelow root sign w c.loop-at.gone) end (c.loop-at.invariant.1 root sign roots).1
