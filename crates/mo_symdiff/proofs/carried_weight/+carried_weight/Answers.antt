use Rattle.std.proofs.Common.{◌∙◌, ◌+◌, ap, sym, arith}
use Rattle.mo_symdiff.specs.Carried.{carried}
use Rattle.mo_symdiff.specs.Weights.{capped, node_weight, weigh}
use Rattle.mo_symdiff.proofs.CarriedWeights.{carried_All, carried_Any, carried_Call, carried_Decimal, carried_If, carried_Literal, carried_Not, carried_Power, carried_Product, carried_Relation, carried_Str, carried_Sum, carried_Time, carried_Truth, carried_Var, carried_Whole, one_more}
use Rattle.mo_symdiff.proofs.carried_weight.+carried_weight.Goals as goal

pub carried_weight-returns-in-Whole : goal.carried_weight-returns-in-Whole
carried_weight-returns-in-Whole t c = rw c.in-Whole.is (c.node_weight.ensures.stops ∙ ap capped (sym (carried_Whole c.args.vars.now c.args.measure _)))

pub carried_weight-returns-in-Truth : goal.carried_weight-returns-in-Truth
carried_weight-returns-in-Truth t c = rw c.in-Truth.is (c.node_weight-in-Truth.ensures.stops ∙ ap capped (sym (carried_Truth c.args.vars.now c.args.measure _)))

pub carried_weight-returns-in-Time : goal.carried_weight-returns-in-Time
carried_weight-returns-in-Time t c = rw c.in-Time.is (c.node_weight-in-Time.ensures.stops ∙ ap capped (sym (carried_Time c.args.vars.now c.args.measure)))

pub carried_weight-returns-in-Decimal : goal.carried_weight-returns-in-Decimal
carried_weight-returns-in-Decimal t c = rw c.in-Decimal.is (c.text_weight.ensures ∙ ap capped (sym (carried_Decimal c.args.vars.now c.args.measure _)))

pub carried_weight-returns-in-Str : goal.carried_weight-returns-in-Str
carried_weight-returns-in-Str t c = rw c.in-Str.is (c.text_weight-in-Str.ensures ∙ ap capped (sym (carried_Str c.args.vars.now c.args.measure _)))

pub carried_weight-returns-in-Literal : goal.carried_weight-returns-in-Literal
carried_weight-returns-in-Literal t c = rw c.in-Literal.is (c.text_weight-in-Literal.ensures ∙ ap capped (sym (carried_Literal c.args.vars.now c.args.measure _)))

pub carried_weight-returns-in-Var : goal.carried_weight-returns-in-Var
carried_weight-returns-in-Var t c = rw c.in-Var.is (c.name_weight.ensures ∙ ap capped (sym (carried_Var c.args.vars.now c.args.measure _ _)))

pub carried_weight-returns-in-Sum : goal.carried_weight-returns-in-Sum
carried_weight-returns-in-Sum t c = rw (c.in-Sum.is, carried_Sum c.args.vars.now c.args.measure c.in-Sum.terms) (rw c.as_slice.ensures at c.signed_weight.ensures)

pub carried_weight-returns-in-Product : goal.carried_weight-returns-in-Product
carried_weight-returns-in-Product t c = rw (c.in-Product.is, carried_Product c.args.vars.now c.args.measure c.in-Product.factors) (rw c.as_slice-in-Product.ensures at c.signed_weight-in-Product.ensures)

pub carried_weight-returns-in-All : goal.carried_weight-returns-in-All
carried_weight-returns-in-All t c = rw (c.in-All.is, carried_All c.args.vars.now c.args.measure c.in-All.parts) (rw c.as_slice-in-All.ensures at c.list_weight-in-All.ensures)

pub carried_weight-returns-in-Any : goal.carried_weight-returns-in-Any
carried_weight-returns-in-Any t c = rw (c.in-Any.is, carried_Any c.args.vars.now c.args.measure c.in-Any.parts) (rw c.as_slice-in-Any.ensures at c.list_weight-in-Any.ensures)

pub carried_weight-returns-in-Call : goal.carried_weight-returns-in-Call
carried_weight-returns-in-Call t c = rw (c.in-Call.is, carried_Call c.args.vars.now c.args.measure _ c.in-Call.args) (rw c.as_slice-in-Call.ensures at c.list_weight.ensures)

pub carried_weight-returns-in-Power : goal.carried_weight-returns-in-Power
carried_weight-returns-in-Power t c = rw (c.in-Power.is, carried_Power c.args.vars.now c.args.measure c.in-Power.base c.in-Power.exponent) (rw (c.get-in-Power.ensures, c.get-in-Power-2.ensures) at c.pair_weight.ensures)

pub carried_weight-returns-in-Relation : goal.carried_weight-returns-in-Relation
carried_weight-returns-in-Relation t c = rw (c.in-Relation.is, carried_Relation c.args.vars.now c.args.measure _ c.in-Relation.left c.in-Relation.right) (rw (c.get-in-Relation.ensures, c.get-in-Relation-2.ensures) at c.pair_weight-in-Relation.ensures)

pub carried_weight-returns-in-Not : goal.carried_weight-returns-in-Not
carried_weight-returns-in-Not t c = rw (c.in-Not.is, carried_Not c.args.vars.now c.args.measure c.in-Not.inner) (rw c.get-in-Not.ensures at c.inner_weight.ensures)

pub carried_weight-returns-in-If : goal.carried_weight-returns-in-If
carried_weight-returns-in-If t c = rw (c.in-If.is, carried_If c.args.vars.now c.args.measure c.in-If.branches c.in-If.other) (rw (c.as_slice-in-If.ensures, c.get-in-If.ensures) at c.choice_weight.ensures)

pub inner_weight-returns : goal.inner_weight-returns
inner_weight-returns t c = c.add.ensures _ _ c.node_weight.ensures.stops c.in_ok-inner.ensures

pub pair_weight-returns : goal.pair_weight-returns
pair_weight-returns t c = c.add-2.ensures _ _ c.node_weight.ensures.stops (c.add.ensures _ _ c.in_ok-left.ensures c.in_ok-right.ensures)

pub choice_weight-returns : goal.choice_weight-returns
choice_weight-returns t c = c.add.ensures _ _ c.in_ok-branches.ensures c.in_ok-other.ensures

pub list_weight-loop-part-init : goal.list_weight-loop-part-init
list_weight-loop-part-init t c = c.node_weight-all.ensures.stops ∙ ap capped (omega arith)

pub signed_weight-loop-term-init : goal.signed_weight-loop-term-init
signed_weight-loop-term-init t c = c.node_weight-all.ensures.stops ∙ ap capped (omega arith)

pub branches_weight-loop-branch-init : goal.branches_weight-loop-branch-init
branches_weight-loop-branch-init t c = c.node_weight-all.ensures.stops ∙ ap capped (omega arith)

pub list_weight-loop-part-preserved : goal.list_weight-loop-part-preserved
list_weight-loop-part-preserved t c =
    let vars = c.args.vars.now in
    let m = c.args.measure in
    c.add-all.ensures _ _ c.loop-part.invariant c.in_ok-one.ensures
    ∙ ap capped (one_more (λ e. weigh vars m (carried vars e)) (node_weight m) c.args.parts.now c.loop-part.part-index c.part-item.result c.loop-part-test.true c.part-item.is)

pub signed_weight-loop-term-preserved : goal.signed_weight-loop-term-preserved
signed_weight-loop-term-preserved t c =
    let vars = c.args.vars.now in
    let m = c.args.measure in
    c.add-all.ensures _ _ c.loop-term.invariant c.in_ok-one.ensures
    ∙ ap capped (one_more (λ e. weigh vars m (carried vars e.1)) (node_weight m) c.args.terms.now c.loop-term.term-index c.term-item.result c.loop-term-test.true c.term-item.is)

pub branches_weight-loop-branch-preserved : goal.branches_weight-loop-branch-preserved
branches_weight-loop-branch-preserved t c =
    let vars = c.args.vars.now in
    let m = c.args.measure in
    c.add-all.ensures _ _ c.loop-branch.invariant (c.add.ensures _ _ c.in_ok-condition.ensures c.in_ok-value.ensures)
    ∙ ap capped (one_more (λ b. weigh vars m (carried vars b.0) + weigh vars m (carried vars b.1)) (node_weight m) c.args.branches.now c.loop-branch.branch-index c.branch-item.result c.loop-branch-test.true c.branch-item.is)
