use Rattle.std.proofs.Common.{arith}
use Rattle.std.proofs.lemmas.Grind.{common_steps}
use Rattle.mo_flat.proofs.Counting.{at_Sum, at_Product, at_Call, at_All, at_Any, at_If}
use Rattle.mo_flat.proofs.nodes.+nodes.Goals as goal

pub counted-returns-in-Sum : goal.counted-returns-in-Sum
counted-returns-in-Sum t c = rw (c.in-Sum.is, at_Sum c.in-Sum.terms) (grind (arith, common_steps))

pub counted-returns-in-Product : goal.counted-returns-in-Product
counted-returns-in-Product t c = rw (c.in-Product.is, at_Product c.in-Product.factors) (grind (arith, common_steps))

pub counted-returns-in-Call : goal.counted-returns-in-Call
counted-returns-in-Call t c = rw (c.in-Call.is, at_Call _ c.in-Call.args) (grind (arith, common_steps))

pub counted-returns-in-All : goal.counted-returns-in-All
counted-returns-in-All t c = rw (c.in-All.is, at_All c.in-All.parts) (grind (arith, common_steps))

pub counted-returns-in-Any : goal.counted-returns-in-Any
counted-returns-in-Any t c = rw (c.in-Any.is, at_Any c.in-Any.parts) (grind (arith, common_steps))

pub counted-returns-in-If : goal.counted-returns-in-If
counted-returns-in-If t c = rw (c.in-If.is, at_If c.in-If.branches c.in-If.other) (grind (arith, common_steps))
