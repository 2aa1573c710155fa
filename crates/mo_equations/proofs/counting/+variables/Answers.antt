-- The variables of the parts, one after another.
use Rattle.std.proofs.Common.{arith}
use Rattle.std.proofs.lemmas.Grind.{common_steps}
use Rattle.mo_equations.proofs.VariablesIn.{at_Sum, at_Product, at_Power, at_Call, at_Relation, at_All, at_Any, at_If}
use Rattle.mo_equations.proofs.counting.+variables.Goals as goal

pub put-returns-in-Sum : goal.put-returns-in-Sum
put-returns-in-Sum t c = rw (c.in-Sum.is, at_Sum c.in-Sum.terms) (grind (arith, common_steps))

pub put-returns-in-Product : goal.put-returns-in-Product
put-returns-in-Product t c = rw (c.in-Product.is, at_Product c.in-Product.factors) (grind (arith, common_steps))

pub put-returns-in-Power : goal.put-returns-in-Power
put-returns-in-Power t c = rw (c.in-Power.is, at_Power c.in-Power.base c.in-Power.exponent) (grind (arith, common_steps))

pub put-returns-in-Call : goal.put-returns-in-Call
put-returns-in-Call t c = rw (c.in-Call.is, at_Call _ c.in-Call.args) (grind (arith, common_steps))

pub put-returns-in-Relation : goal.put-returns-in-Relation
put-returns-in-Relation t c = rw (c.in-Relation.is, at_Relation _ c.in-Relation.left c.in-Relation.right) (grind (arith, common_steps))

pub put-returns-in-All : goal.put-returns-in-All
put-returns-in-All t c = rw (c.in-All.is, at_All c.in-All.parts) (grind (arith, common_steps))

pub put-returns-in-Any : goal.put-returns-in-Any
put-returns-in-Any t c = rw (c.in-Any.is, at_Any c.in-Any.parts) (grind (arith, common_steps))

pub put-returns-in-If : goal.put-returns-in-If
put-returns-in-If t c = rw (c.in-If.is, at_If c.in-If.branches c.in-If.other) (grind (arith, common_steps))
