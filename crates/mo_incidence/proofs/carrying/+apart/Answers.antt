use Rattle.std.proofs.Common.{arith}
use Rattle.std.proofs.lemmas.Grind.{common_steps}
use Rattle.mo_incidence.proofs.Nodes.{apart_Sum, apart_Product, apart_Call, apart_All, apart_Any, apart_If}
use Rattle.mo_incidence.proofs.carrying.+apart.Goals as goal

pub apart-returns-in-Sum : goal.apart-returns-in-Sum
apart-returns-in-Sum t c = rw (c.in-Sum.is, apart_Sum c.args.vars.now c.in-Sum.terms c.args.around) (rw c.as_slice.ensures at c.signed_apart.ensures)

pub apart-returns-in-Product : goal.apart-returns-in-Product
apart-returns-in-Product t c = rw (c.in-Product.is, apart_Product c.args.vars.now c.in-Product.factors c.args.around) (rw c.as_slice-in-Product.ensures at c.signed_apart-in-Product.ensures)

pub apart-returns-in-Call : goal.apart-returns-in-Call
apart-returns-in-Call t c = rw (c.in-Call.is, apart_Call c.args.vars.now _ c.in-Call.args c.args.around) (rw c.as_slice-in-Call.ensures at c.all_apart.ensures)

pub apart-returns-in-All : goal.apart-returns-in-All
apart-returns-in-All t c = rw (c.in-All.is, apart_All c.args.vars.now c.in-All.parts c.args.around) (rw c.as_slice-in-All.ensures at c.all_apart-in-All.ensures)

pub apart-returns-in-Any : goal.apart-returns-in-Any
apart-returns-in-Any t c = rw (c.in-Any.is, apart_Any c.args.vars.now c.in-Any.parts c.args.around) (rw c.as_slice-in-Any.ensures at c.all_apart-in-Any.ensures)

pub apart-returns-then-branches_apart : goal.apart-returns-then-branches_apart
apart-returns-then-branches_apart t c = rw (c.in-If.is, apart_If c.args.vars.now c.in-If.branches c.in-If.other c.args.around) (grind (arith, common_steps))

pub apart-returns-else-branches_apart : goal.apart-returns-else-branches_apart
apart-returns-else-branches_apart t c = rw (c.in-If.is, apart_If c.args.vars.now c.in-If.branches c.in-If.other c.args.around) (grind (arith, common_steps))
