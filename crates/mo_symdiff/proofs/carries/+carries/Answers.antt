use Rattle.std.proofs.Common.{arith}
use Rattle.std.proofs.lemmas.Grind.{common_steps}
use Rattle.mo_symdiff.proofs.Carrying.{carries_Whole, carries_Decimal, carries_Str, carries_Truth, carries_Literal, carries_Time, carries_Var, carries_Sum, carries_Product, carries_Power, carries_Call, carries_Relation, carries_Not, carries_All, carries_Any, carries_If, carries_Der}
use Rattle.mo_symdiff.proofs.carries.+carries.Goals as goal

pub carries-returns-in-Sum : goal.carries-returns-in-Sum
carries-returns-in-Sum t c = rw (c.in-Sum.is, carries_Sum c.args.vars.now c.in-Sum.terms) (rw c.as_slice.ensures at c.all_signed_carry.ensures)

pub carries-returns-in-Product : goal.carries-returns-in-Product
carries-returns-in-Product t c = rw (c.in-Product.is, carries_Product c.args.vars.now c.in-Product.factors) (rw c.as_slice-in-Product.ensures at c.all_signed_carry-in-Product.ensures)

pub carries-returns-in-Call : goal.carries-returns-in-Call
carries-returns-in-Call t c = rw (c.in-Call.is, carries_Call c.args.vars.now _ c.in-Call.args) (rw c.as_slice-in-Call.ensures at c.all_carry.ensures)

pub carries-returns-in-All : goal.carries-returns-in-All
carries-returns-in-All t c = rw (c.in-All.is, carries_All c.args.vars.now c.in-All.parts) (rw c.as_slice-in-All.ensures at c.all_carry-in-All.ensures)

pub carries-returns-in-Any : goal.carries-returns-in-Any
carries-returns-in-Any t c = rw (c.in-Any.is, carries_Any c.args.vars.now c.in-Any.parts) (rw c.as_slice-in-Any.ensures at c.all_carry-in-Any.ensures)

pub carries-returns-in-Whole : goal.carries-returns-in-Whole
carries-returns-in-Whole t c = rw c.in-Whole.is (carries_Whole _ _)

pub carries-returns-in-Decimal : goal.carries-returns-in-Decimal
carries-returns-in-Decimal t c = rw c.in-Decimal.is (carries_Decimal _ _)

pub carries-returns-in-Str : goal.carries-returns-in-Str
carries-returns-in-Str t c = rw c.in-Str.is (carries_Str _ _)

pub carries-returns-in-Truth : goal.carries-returns-in-Truth
carries-returns-in-Truth t c = rw c.in-Truth.is (carries_Truth _ _)

pub carries-returns-in-Literal : goal.carries-returns-in-Literal
carries-returns-in-Literal t c = rw c.in-Literal.is (carries_Literal _ _)

pub carries-returns-in-Time : goal.carries-returns-in-Time
carries-returns-in-Time t c = rw c.in-Time.is (carries_Time _)

pub carries-returns-in-Var : goal.carries-returns-in-Var
carries-returns-in-Var t c = rw c.in-Var.is (carries_Var _ _ _)

pub carries-returns-in-Power : goal.carries-returns-in-Power
carries-returns-in-Power t c = rw (c.in-Power.is, carries_Power c.args.vars.now c.in-Power.base c.in-Power.exponent) (grind (arith, common_steps))

pub carries-returns-in-Relation : goal.carries-returns-in-Relation
carries-returns-in-Relation t c = rw (c.in-Relation.is, carries_Relation c.args.vars.now _ c.in-Relation.left c.in-Relation.right) (grind (arith, common_steps))

pub carries-returns-in-Not : goal.carries-returns-in-Not
carries-returns-in-Not t c = rw (c.in-Not.is, carries_Not c.args.vars.now c.in-Not.inner) (grind (arith, common_steps))

pub derivative_carries-returns-then-carries : goal.derivative_carries-returns-then-carries
derivative_carries-returns-then-carries t c = rw (carries_Der c.args.vars.now c.args.inner.now) (grind (arith, common_steps))

pub choice_carries-returns-then-all_branches_carry : goal.choice_carries-returns-then-all_branches_carry
choice_carries-returns-then-all_branches_carry t c = rw (carries_If c.args.vars.now c.args.branches.now c.args.other.now) (grind (arith, common_steps))

pub derivative_carries-returns-else-carries : goal.derivative_carries-returns-else-carries
derivative_carries-returns-else-carries t c = rw (carries_Der c.args.vars.now c.args.inner.now) (grind (arith, common_steps))

pub choice_carries-returns-else-all_branches_carry : goal.choice_carries-returns-else-all_branches_carry
choice_carries-returns-else-all_branches_carry t c = rw (carries_If c.args.vars.now c.args.branches.now c.args.other.now) (grind (arith, common_steps))
