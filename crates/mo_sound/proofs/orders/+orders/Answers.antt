-- Form by form.
use Rattle.std.proofs.Common.{◌+◌, ◌∙◌, ap, arith}
use Rattle.std.proofs.lemmas.Grind.{common_steps}
use Rattle.mo_flat.specs.declared.expr.FlatExpr.{FlatExpr}
use Rattle.mo_sound.specs.SoundKinds.{orders_at}
use Rattle.mo_sound.proofs.Ordered.{at_All, at_Any, at_Call, at_Der, at_If, at_Product, at_Sum, cut}
use Rattle.mo_sound.proofs.orders.+orders.Goals as goal

pub orders_fit-returns-in-Der : goal.orders_fit-returns-in-Der
orders_fit-returns-in-Der t c =
    rw (c.in-Der.is, at_Der c.args.around c.in-Der.inner)
    (c.orders_fit.ensures ∙ (ap (λ (e : FlatExpr). orders_at e c.one_more.result) c.get.ensures ∙ (ap (orders_at c.in-Der.inner) c.one_more.ensures ∙ cut c.in-Der.inner (c.args.around + 1))))

pub orders_fit-returns-in-Sum : goal.orders_fit-returns-in-Sum
orders_fit-returns-in-Sum t c = rw (c.in-Sum.is, at_Sum c.args.around c.in-Sum.terms) (grind (arith, common_steps))

pub orders_fit-returns-in-Product : goal.orders_fit-returns-in-Product
orders_fit-returns-in-Product t c = rw (c.in-Product.is, at_Product c.args.around c.in-Product.factors) (grind (arith, common_steps))

pub orders_fit-returns-in-Call : goal.orders_fit-returns-in-Call
orders_fit-returns-in-Call t c = rw (c.in-Call.is, at_Call c.args.around _ c.in-Call.args) (grind (arith, common_steps))

pub orders_fit-returns-in-All : goal.orders_fit-returns-in-All
orders_fit-returns-in-All t c = rw (c.in-All.is, at_All c.args.around c.in-All.parts) (grind (arith, common_steps))

pub orders_fit-returns-in-Any : goal.orders_fit-returns-in-Any
orders_fit-returns-in-Any t c = rw (c.in-Any.is, at_Any c.args.around c.in-Any.parts) (grind (arith, common_steps))

pub orders_fit-returns-then-orders_of_branches_fit : goal.orders_fit-returns-then-orders_of_branches_fit
orders_fit-returns-then-orders_of_branches_fit t c = rw (c.in-If.is, at_If c.args.around c.in-If.branches c.in-If.other) (grind (arith, common_steps))

pub orders_fit-returns-else-orders_of_branches_fit : goal.orders_fit-returns-else-orders_of_branches_fit
orders_fit-returns-else-orders_of_branches_fit t c = rw (c.in-If.is, at_If c.args.around c.in-If.branches c.in-If.other) (grind (arith, common_steps))
