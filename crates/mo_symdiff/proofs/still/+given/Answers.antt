use Rattle.std.proofs.Common.{arith}
use Rattle.std.proofs.lemmas.Grind.{common_steps}
use Rattle.mo_symdiff.proofs.Tests.{given_Sum, given_Product, given_Call, given_All, given_Any, given_If}
use Rattle.mo_symdiff.proofs.still.+given.Goals as goal

pub given-returns-in-Sum : goal.given-returns-in-Sum
given-returns-in-Sum t c = rw (c.in-Sum.is, given_Sum c.args.vars.now c.in-Sum.terms) (rw c.as_slice.ensures at c.some_signed_given.ensures)

pub given-returns-in-Product : goal.given-returns-in-Product
given-returns-in-Product t c = rw (c.in-Product.is, given_Product c.args.vars.now c.in-Product.factors) (rw c.as_slice-in-Product.ensures at c.some_signed_given-in-Product.ensures)

pub given-returns-in-Call : goal.given-returns-in-Call
given-returns-in-Call t c = rw (c.in-Call.is, given_Call c.args.vars.now _ c.in-Call.args) (rw c.as_slice-in-Call.ensures at c.some_given.ensures)

pub given-returns-in-All : goal.given-returns-in-All
given-returns-in-All t c = rw (c.in-All.is, given_All c.args.vars.now c.in-All.parts) (rw c.as_slice-in-All.ensures at c.some_given-in-All.ensures)

pub given-returns-in-Any : goal.given-returns-in-Any
given-returns-in-Any t c = rw (c.in-Any.is, given_Any c.args.vars.now c.in-Any.parts) (rw c.as_slice-in-Any.ensures at c.some_given-in-Any.ensures)

pub given-returns-then-some_value_given : goal.given-returns-then-some_value_given
given-returns-then-some_value_given t c = rw (c.in-If.is, given_If c.args.vars.now c.in-If.branches c.in-If.other) (grind (arith, common_steps))

pub given-returns-else-some_value_given : goal.given-returns-else-some_value_given
given-returns-else-some_value_given t c = rw (c.in-If.is, given_If c.args.vars.now c.in-If.branches c.in-If.other) (grind (arith, common_steps))
