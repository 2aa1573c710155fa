use Rattle.std.proofs.Common.{arith}
use Rattle.std.proofs.lemmas.Grind.{common_steps}
use Rattle.mo_symdiff.proofs.Tests.{still_Sum, still_Product, still_Call, still_All, still_Any, still_If}
use Rattle.mo_symdiff.proofs.still.+still.Goals as goal

pub stays-returns-in-Sum : goal.stays-returns-in-Sum
stays-returns-in-Sum t c = rw (c.in-Sum.is, still_Sum c.args.vars.now c.in-Sum.terms) (rw c.as_slice.ensures at c.all_signed_stay.ensures)

pub stays-returns-in-Product : goal.stays-returns-in-Product
stays-returns-in-Product t c = rw (c.in-Product.is, still_Product c.args.vars.now c.in-Product.factors) (rw c.as_slice-in-Product.ensures at c.all_signed_stay-in-Product.ensures)

pub stays-returns-in-Call : goal.stays-returns-in-Call
stays-returns-in-Call t c = rw (c.in-Call.is, still_Call c.args.vars.now _ c.in-Call.args) (rw c.as_slice-in-Call.ensures at c.all_stay.ensures)

pub stays-returns-in-All : goal.stays-returns-in-All
stays-returns-in-All t c = rw (c.in-All.is, still_All c.args.vars.now c.in-All.parts) (rw c.as_slice-in-All.ensures at c.all_stay-in-All.ensures)

pub stays-returns-in-Any : goal.stays-returns-in-Any
stays-returns-in-Any t c = rw (c.in-Any.is, still_Any c.args.vars.now c.in-Any.parts) (rw c.as_slice-in-Any.ensures at c.all_stay-in-Any.ensures)

pub stays-returns-then-all_values_stay : goal.stays-returns-then-all_values_stay
stays-returns-then-all_values_stay t c = rw (c.in-If.is, still_If c.args.vars.now c.in-If.branches c.in-If.other) (grind (arith, common_steps))

pub stays-returns-else-all_values_stay : goal.stays-returns-else-all_values_stay
stays-returns-else-all_values_stay t c = rw (c.in-If.is, still_If c.args.vars.now c.in-If.branches c.in-If.other) (grind (arith, common_steps))
