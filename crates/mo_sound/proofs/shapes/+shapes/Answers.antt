-- Form by form.
use Rattle.std.proofs.Common.{arith}
use Rattle.std.proofs.lemmas.Grind.{common_steps}
use Rattle.mo_sound.proofs.Shaped.{at_All, at_Any, at_Call, at_If, at_Product, at_Sum}
use Rattle.mo_sound.proofs.shapes.+shapes.Goals as goal

pub is_shaped-returns-then-has_some : goal.is_shaped-returns-then-has_some
is_shaped-returns-then-has_some t c = rw (c.in-Sum.is, at_Sum c.args.vars.now c.in-Sum.terms) (grind (arith, common_steps))

pub is_shaped-returns-then-begins_multiplied : goal.is_shaped-returns-then-begins_multiplied
is_shaped-returns-then-begins_multiplied t c = rw (c.in-Product.is, at_Product c.args.vars.now c.in-Product.factors) (grind (arith, common_steps))

pub is_shaped-returns-then-takes : goal.is_shaped-returns-then-takes
is_shaped-returns-then-takes t c = rw (c.in-Call.is, at_Call c.args.vars.now _ c.in-Call.args) (grind (arith, common_steps))

pub is_shaped-returns-else-takes : goal.is_shaped-returns-else-takes
is_shaped-returns-else-takes t c = rw (c.in-Call.is, at_Call c.args.vars.now _ c.in-Call.args) (grind (arith, common_steps))

pub is_shaped-returns-then-has_some-2 : goal.is_shaped-returns-then-has_some-2
is_shaped-returns-then-has_some-2 t c = rw (c.in-All.is, at_All c.args.vars.now c.in-All.parts) (grind (arith, common_steps))

pub is_shaped-returns-then-has_some-3 : goal.is_shaped-returns-then-has_some-3
is_shaped-returns-then-has_some-3 t c = rw (c.in-Any.is, at_Any c.args.vars.now c.in-Any.parts) (grind (arith, common_steps))

pub is_shaped-returns-then-are_branches_shaped : goal.is_shaped-returns-then-are_branches_shaped
is_shaped-returns-then-are_branches_shaped t c = rw (c.in-If.is, at_If c.args.vars.now c.in-If.branches c.in-If.other) (grind (arith, common_steps))

pub is_shaped-returns-else-are_branches_shaped : goal.is_shaped-returns-else-are_branches_shaped
is_shaped-returns-else-are_branches_shaped t c = rw (c.in-If.is, at_If c.args.vars.now c.in-If.branches c.in-If.other) (grind (arith, common_steps))
