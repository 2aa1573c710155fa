-- Each part in turn.
use Rattle.std.proofs.Common.{◌≡◌, map, refl, sym, ap, ap₂, ◌∙◌, take_all}
use Rattle.mo_flat.specs.declared.expr.FlatExpr as flat
use Rattle.mo_alias.specs.steps.Placing.{place_at}
use Rattle.mo_alias.specs.Without.{replaced}
use Rattle.mo_alias.proofs.Gathering.{both_each, both_made, mapped_more, same_inside}
use Rattle.mo_alias.proofs.Deriving as at
use Rattle.mo_alias.proofs.replace.+replaced.Goals as goal

pub replaced_list-loop-part-init : goal.replaced_list-loop-part-init
replaced_list-loop-part-init t c = c.new-made.ensures

pub replaced_list-loop-part-preserved : goal.replaced_list-loop-part-preserved
replaced_list-loop-part-preserved t c =
    mapped_more (replaced (place_at c.args.places.now)) c.args.parts.now c.loop-part.part-index c.part-item.result c.loop-part.made c.pushed.new.list c.replaced.result c.loop-part-test.true c.part-item.is c.loop-part.invariant
    c.replaced.ensures c.in_ok-pushed.ensures.value

pub replaced_list-returns : goal.replaced_list-returns
replaced_list-returns t c = c.loop-part.invariant ∙ ap (map (replaced (place_at c.args.places.now))) (take_all c.loop-part.part-index c.args.parts.now c.loop-part-test.false)

pub replaced_signed-loop-term-init : goal.replaced_signed-loop-term-init
replaced_signed-loop-term-init t c = c.new-made.ensures

pub replaced_signed-loop-term-preserved : goal.replaced_signed-loop-term-preserved
replaced_signed-loop-term-preserved t c =
    mapped_more (λ t. (t.0, replaced (place_at c.args.places.now) t.1)) c.args.terms.now c.loop-term.term-index c.term-item.result c.loop-term.made c.pushed.new.list c.both.result c.loop-term-test.true c.term-item.is c.loop-term.invariant
    (both_made _ c.replaced.result c.both.result _ _ c.both.ensures.values refl c.replaced.ensures) c.in_ok-pushed.ensures.value

pub replaced_signed-returns : goal.replaced_signed-returns
replaced_signed-returns t c = c.loop-term.invariant ∙ ap (map (λ t. (t.0, replaced (place_at c.args.places.now) t.1))) (take_all c.loop-term.term-index c.args.terms.now c.loop-term-test.false)

pub replaced_branches-loop-branch-init : goal.replaced_branches-loop-branch-init
replaced_branches-loop-branch-init t c = c.new-made.ensures

pub replaced_branches-loop-branch-preserved : goal.replaced_branches-loop-branch-preserved
replaced_branches-loop-branch-preserved t c =
    mapped_more (λ b. (replaced (place_at c.args.places.now) b.0, replaced (place_at c.args.places.now) b.1)) c.args.branches.now c.loop-branch.branch-index c.branch-item.result c.loop-branch.made c.pushed.new.list c.both.result c.loop-branch-test.true c.branch-item.is c.loop-branch.invariant
    (both_made c.replaced-condition.result c.replaced.result c.both.result _ _ c.both.ensures.values c.replaced-condition.ensures c.replaced.ensures) c.in_ok-pushed.ensures.value

pub replaced_branches-returns : goal.replaced_branches-returns
replaced_branches-returns t c = c.loop-branch.invariant ∙ ap (map (λ b. (replaced (place_at c.args.places.now) b.0, replaced (place_at c.args.places.now) b.1))) (take_all c.loop-branch.branch-index c.args.branches.now c.loop-branch-test.false)

pub replaced-returns-in_ok-replaced_signed-in-Sum : goal.replaced-returns-in_ok-replaced_signed-in-Sum
replaced-returns-in_ok-replaced_signed-in-Sum t c = ap (λ xs. flat.Sum xs) (c.in_ok-replaced_signed-in-Sum.ensures ∙ ap (map (λ t. (t.0, replaced (place_at c.args.places.now) t.1))) c.as_slice.ensures) ∙ sym (ap (replaced (place_at c.args.places.now)) c.in-Sum.is ∙ at.at_Sum (place_at c.args.places.now) c.in-Sum.terms)

pub replaced-returns-in_ok-replaced_signed-in-Product : goal.replaced-returns-in_ok-replaced_signed-in-Product
replaced-returns-in_ok-replaced_signed-in-Product t c = ap (λ xs. flat.Product xs) (c.in_ok-replaced_signed-in-Product.ensures ∙ ap (map (λ t. (t.0, replaced (place_at c.args.places.now) t.1))) c.as_slice-in-Product.ensures) ∙ sym (ap (replaced (place_at c.args.places.now)) c.in-Product.is ∙ at.at_Product (place_at c.args.places.now) c.in-Product.factors)

pub replaced-returns-in_ok-replaced_list-in-Call : goal.replaced-returns-in_ok-replaced_list-in-Call
replaced-returns-in_ok-replaced_list-in-Call t c = ap (λ xs. flat.Call c.in-Call.function xs) (c.in_ok-replaced_list-in-Call.ensures ∙ ap (map (replaced (place_at c.args.places.now))) c.as_slice-in-Call.ensures) ∙ sym (ap (replaced (place_at c.args.places.now)) c.in-Call.is ∙ at.at_Call (place_at c.args.places.now) c.in-Call.function c.in-Call.args)

pub replaced-returns-in_ok-replaced_list-in-All : goal.replaced-returns-in_ok-replaced_list-in-All
replaced-returns-in_ok-replaced_list-in-All t c = ap (λ xs. flat.All xs) (c.in_ok-replaced_list-in-All.ensures ∙ ap (map (replaced (place_at c.args.places.now))) c.as_slice-in-All.ensures) ∙ sym (ap (replaced (place_at c.args.places.now)) c.in-All.is ∙ at.at_All (place_at c.args.places.now) c.in-All.parts)

pub replaced-returns-in_ok-replaced_list-in-Any : goal.replaced-returns-in_ok-replaced_list-in-Any
replaced-returns-in_ok-replaced_list-in-Any t c = ap (λ xs. flat.Any xs) (c.in_ok-replaced_list-in-Any.ensures ∙ ap (map (replaced (place_at c.args.places.now))) c.as_slice-in-Any.ensures) ∙ sym (ap (replaced (place_at c.args.places.now)) c.in-Any.is ∙ at.at_Any (place_at c.args.places.now) c.in-Any.parts)

pub replaced-returns-in_ok-replaced_box-in-Der : goal.replaced-returns-in_ok-replaced_box-in-Der
replaced-returns-in_ok-replaced_box-in-Der t c = ap (λ x. flat.Der x) (c.in_ok-replaced_box-in-Der.ensures ∙ ap (replaced (place_at c.args.places.now)) c.get.ensures) ∙ sym (ap (replaced (place_at c.args.places.now)) c.in-Der.is ∙ at.at_Der (place_at c.args.places.now) c.in-Der.inner)

pub replaced-returns-in_ok-replaced_box-in-Not : goal.replaced-returns-in_ok-replaced_box-in-Not
replaced-returns-in_ok-replaced_box-in-Not t c = ap (λ x. flat.Not x) (c.in_ok-replaced_box-in-Not.ensures ∙ ap (replaced (place_at c.args.places.now)) c.get-in-Not.ensures) ∙ sym (ap (replaced (place_at c.args.places.now)) c.in-Not.is ∙ at.at_Not (place_at c.args.places.now) c.in-Not.inner)

pub replaced-returns-in_ok-a-in-Power : goal.replaced-returns-in_ok-a-in-Power
replaced-returns-in_ok-a-in-Power t c =
    ap₂ (λ x y. flat.Power x y) (c.in_ok-a-in-Power.ensures.0 ∙ ap (replaced (place_at c.args.places.now)) c.get-in-Power.ensures) (c.in_ok-a-in-Power.ensures.1 ∙ ap (replaced (place_at c.args.places.now)) c.get-in-Power-2.ensures)
    ∙ sym (ap (replaced (place_at c.args.places.now)) c.in-Power.is ∙ at.at_Power (place_at c.args.places.now) c.in-Power.base c.in-Power.exponent)

pub replaced-returns-in_ok-a-in-Relation : goal.replaced-returns-in_ok-a-in-Relation
replaced-returns-in_ok-a-in-Relation t c =
    ap₂ (λ x y. flat.Relation c.in-Relation.op x y) (c.in_ok-a-in-Relation.ensures.0 ∙ ap (replaced (place_at c.args.places.now)) c.get-in-Relation.ensures) (c.in_ok-a-in-Relation.ensures.1 ∙ ap (replaced (place_at c.args.places.now)) c.get-in-Relation-2.ensures)
    ∙ sym (ap (replaced (place_at c.args.places.now)) c.in-Relation.is ∙ at.at_Relation (place_at c.args.places.now) c.in-Relation.op c.in-Relation.left c.in-Relation.right)

pub replaced_box-returns : goal.replaced_box-returns
replaced_box-returns t c = same_inside c.replaced.result c.in_box.result (λ made. made ≡ replaced (place_at c.args.places.now) c.args.e.now) c.in_box.ensures c.replaced.ensures

pub replaced_boxes-returns : goal.replaced_boxes-returns
replaced_boxes-returns t c =
    both_each c.replaced_box.result c.replaced_box-2.result c.both.result (λ made. made ≡ replaced (place_at c.args.places.now) c.args.a.now) (λ made. made ≡ replaced (place_at c.args.places.now) c.args.b.now)
    c.both.ensures.values c.replaced_box.ensures c.replaced_box-2.ensures

pub replaced_choice-returns : goal.replaced_choice-returns
replaced_choice-returns t c =
    ap₂ (λ x y. flat.If x y) (rw c.in_ok-branches.ensures.values.0 at c.replaced_branches-branches.ensures) (rw c.in_ok-branches.ensures.values.1 at c.replaced_box.ensures)
    ∙ sym (at.at_If (place_at c.args.places.now) c.args.branches.now c.args.other.now)
