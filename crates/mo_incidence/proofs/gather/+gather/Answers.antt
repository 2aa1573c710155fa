use Rattle.std.proofs.Common.{◌≡◌, ℕ, List, ◌++◌, Result, OnOk, ap, ◌∙◌, subst, append_assoc}
use Rattle.mo_incidence.proofs.Nodes.{found_Sum, found_Product, found_Call, found_All, found_Any, found_If, found_Power, found_Relation}
use Rattle.mo_incidence.proofs.gather.+gather.Goals as goal

pub gather-returns-in-Sum : goal.gather-returns-in-Sum
gather-returns-in-Sum t c = rw (c.in-Sum.is, found_Sum c.args.places.now c.in-Sum.terms c.args.around) (rw c.as_slice.ensures at c.gather_signed.ensures)

pub gather-returns-in-Product : goal.gather-returns-in-Product
gather-returns-in-Product t c = rw (c.in-Product.is, found_Product c.args.places.now c.in-Product.factors c.args.around) (rw c.as_slice-in-Product.ensures at c.gather_signed-in-Product.ensures)

pub gather-returns-in-Call : goal.gather-returns-in-Call
gather-returns-in-Call t c = rw (c.in-Call.is, found_Call c.args.places.now _ c.in-Call.args c.args.around) (rw c.as_slice-in-Call.ensures at c.gather_list.ensures)

pub gather-returns-in-All : goal.gather-returns-in-All
gather-returns-in-All t c = rw (c.in-All.is, found_All c.args.places.now c.in-All.parts c.args.around) (rw c.as_slice-in-All.ensures at c.gather_list-in-All.ensures)

pub gather-returns-in-Any : goal.gather-returns-in-Any
gather-returns-in-Any t c = rw (c.in-Any.is, found_Any c.args.places.now c.in-Any.parts c.args.around) (rw c.as_slice-in-Any.ensures at c.gather_list-in-Any.ensures)

-- what was added in two steps
joined : {A E : Type 0} (r : Result A E) (new middle old b x : List (ℕ × ℕ)) → middle ≡ old ++ b → OnOk r (new ≡ middle ++ x) → OnOk r (new ≡ old ++ (b ++ x))
joined r new middle old b x h = subst (λ l. OnOk r (new ≡ l)) (ap (λ m. m ++ x) h ∙ append_assoc old b x)

pub gather-returns-in_ok-gather-in-Power : goal.gather-returns-in_ok-gather-in-Power
gather-returns-in_ok-gather-in-Power t c = rw (c.in-Power.is, found_Power c.args.places.now c.in-Power.base c.in-Power.exponent c.args.around)
    (joined c.gather-in-Power-2.result _ _ _ _ _ (rw c.get-in-Power.ensures at (c.in_ok-gather-in-Power.ensures)) (rw c.get-in-Power-2.ensures at c.gather-in-Power-2.ensures))

pub gather-returns-in_ok-gather-in-Relation : goal.gather-returns-in_ok-gather-in-Relation
gather-returns-in_ok-gather-in-Relation t c = rw (c.in-Relation.is, found_Relation c.args.places.now _ c.in-Relation.left c.in-Relation.right c.args.around)
    (joined c.gather-in-Relation-2.result _ _ _ _ _ (rw c.get-in-Relation.ensures at (c.in_ok-gather-in-Relation.ensures)) (rw c.get-in-Relation-2.ensures at c.gather-in-Relation-2.ensures))

pub gather-returns-in_ok-gather_values-in-If : goal.gather-returns-in_ok-gather_values-in-If
gather-returns-in_ok-gather_values-in-If t c = rw (c.in-If.is, found_If c.args.places.now c.in-If.branches c.in-If.other c.args.around)
    (joined c.gather-in-If.result _ _ _ _ _ (rw c.as_slice-in-If.ensures at (c.in_ok-gather_values-in-If.ensures)) (rw c.get-in-If.ensures at c.gather-in-If.ensures))
