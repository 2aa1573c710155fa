-- Argument by argument.
use Rattle.std.proofs.Common.{◌+◌, ap, sym, ◌∙◌}
use Rattle.mo_equations.specs.Asserts.{value_of_argument}
use Rattle.mo_equations.proofs.Arguments.{ValuesLeft, partial_none, values_end, values_more, values_start, values_stop}
use Rattle.mo_equations.proofs.asserts.values_of.Goals as goal

pub loop-argument-init : goal.loop-argument-init
loop-argument-init c = ap (ValuesLeft c.args.arguments.now 0) c.new-values.ensures ∙ values_start c.args.arguments.now

pub loop-argument-preserved : goal.loop-argument-preserved
loop-argument-preserved c =
    ap (ValuesLeft c.args.arguments.now (c.loop-argument.argument-index + 1)) c.in_ok-push-in-Value.ensures.ok
    ∙ values_more c.args.arguments.now c.loop-argument.argument-index c.argument-item.result c.loop-argument.values _ c.loop-argument-test.true c.argument-item.is c.in-Value.is
    ∙ c.loop-argument.invariant

pub returns-in-Partial : goal.returns-in-Partial
returns-in-Partial c =
    sym (values_stop c.args.arguments.now c.loop-argument.argument-index c.argument-item.result c.loop-argument.values c.loop-argument-test.true c.argument-item.is (ap value_of_argument c.in-Partial.is ∙ partial_none _ _))
    ∙ c.loop-argument.invariant

pub returns : goal.returns
returns c = sym (values_end c.args.arguments.now c.loop-argument.argument-index c.loop-argument.values c.loop-argument-test.false) ∙ c.loop-argument.invariant
