-- Form by form.
use Rattle.std.proofs.Common.{◌≡◌, ◌∙◌, Bool, List, [], ◌∷◌, Option, map, refl, ap, sym, subst}
use Rattle.std.specs.Prelude.{option_map}
use Rattle.std.specs.List.{list_any}
use Rattle.mo_flat.specs.declared.expr.FlatExpr.{FlatExpr}
use Rattle.mo_flat.specs.Sound.{FlatKind, is_truth, kind_of}
use Rattle.mo_sound.specs.SoundKinds.{AreSummed, kind_seen, product_kind}
use Rattle.mo_sound.proofs.Kinded.{at_If, at_Power, at_Product, at_Sum, choice_done, choice_kind, choice_next, choice_stops, kinds_next, power_is}
use Rattle.mo_sound.proofs.kinds.+kinds.Goals as goal

pub kind_of-returns-in-Sum : goal.kind_of-returns-in-Sum
kind_of-returns-in-Sum t c = rw (c.in-Sum.is, at_Sum c.args.vars.now c.in-Sum.terms) (rw c.as_slice.ensures at (c.number.ensures _ c.kinds_of_signed.ensures))

pub kind_of-returns-in-Product : goal.kind_of-returns-in-Product
kind_of-returns-in-Product t c =
    let kinds = map (λ (x : Bool × FlatExpr). kind_of c.args.vars.now x.1) c.in-Product.factors in
    rw (c.in-Product.is, at_Product c.args.vars.now c.in-Product.factors)
    (c.product_kind.ensures kinds (rw c.as_slice-in-Product.ensures at c.kinds_of_signed-kinds.ensures)
    ∙ ap (λ (d : Bool). product_kind d kinds) (c.divides.ensures ∙ ap (list_any (λ (x : Bool × FlatExpr). x.0)) c.as_slice-in-Product-2.ensures))

pub kind_of-returns-in-Power : goal.kind_of-returns-in-Power
kind_of-returns-in-Power t c =
    let sums = c.with.ensures _ (c.with-kinds.ensures [] c.none.ensures) in
    rw (c.in-Power.is, at_Power c.args.vars.now c.in-Power.base c.in-Power.exponent)
    (c.real_where-in-Power.ensures
    ∙ power_is c.args.vars.now c.in-Power.base c.in-Power.exponent c.with.result.numeric _ _ sums.numeric
    (c.kind_of-in-Power.ensures ∙ ap (kind_of c.args.vars.now) c.get-in-Power.ensures) (c.kind_of-in-Power-2.ensures ∙ ap (kind_of c.args.vars.now) c.get-in-Power-2.ensures))

pub kind_of-returns-in-If : goal.kind_of-returns-in-If
kind_of-returns-in-If t c =
    let is : option_map kind_seen c.kind_of_choice.result ≡ choice_kind c.args.vars.now c.as_slice-in-If.result.now c.get-in-If.result.now = c.kind_of_choice.ensures in
    rw (c.in-If.is, at_If c.args.vars.now c.in-If.branches c.in-If.other)
    (is ∙ (ap (λ (bs : List (FlatExpr × FlatExpr)). choice_kind c.args.vars.now bs c.get-in-If.result.now) c.as_slice-in-If.ensures ∙ ap (choice_kind c.args.vars.now c.in-If.branches) c.get-in-If.ensures))

pub kind_of_choice-loop-branch-init : goal.kind_of_choice-loop-branch-init
kind_of_choice-loop-branch-init t c = record {
  kinds = subst (λ (k : Option FlatKind). AreSummed c.with-kinds.result (k ∷ [])) c.kind_of.ensures (c.with-kinds.ensures [] c.none.ensures);
  conditions = refl;
}

pub kind_of_choice-returns-then-not-is_truth : goal.kind_of_choice-returns-then-not-is_truth
kind_of_choice-returns-then-not-is_truth t c =
    choice_stops c.args.vars.now c.args.branches.now c.args.other.now c.loop-branch.branch-index c.branch-item.result c.is_truth.result c.loop-branch-test.true c.branch-item.is
    (c.is_truth.ensures ∙ ap is_truth c.kind_of-in-loop-branch.ensures) c.if-not-is_truth.true

pub kind_of_choice-loop-branch-preserved : goal.kind_of_choice-loop-branch-preserved
kind_of_choice-loop-branch-preserved t c =
    let vars = c.args.vars.now in
    let i = c.loop-branch.branch-index in
    let branch = c.branch-item.result in
    let value : option_map kind_seen c.kind_of-in-loop-branch-2.result ≡ kind_of vars branch.1 = c.kind_of-in-loop-branch-2.ensures in
    record {
      kinds = subst (AreSummed c.with-kinds-in-loop-branch.result) (sym (kinds_next vars c.args.branches.now c.args.other.now i branch (option_map kind_seen c.kind_of-in-loop-branch-2.result) c.loop-branch-test.true c.branch-item.is value))
          (c.with-kinds-in-loop-branch.ensures _ c.loop-branch.invariant.kinds);
      conditions = choice_next vars c.args.branches.now c.args.other.now i branch c.is_truth.result c.loop-branch-test.true c.branch-item.is
          (c.is_truth.ensures ∙ ap is_truth c.kind_of-in-loop-branch.ensures) c.if-not-is_truth.false c.loop-branch.invariant.conditions;
    }

pub kind_of_choice-returns : goal.kind_of_choice-returns
kind_of_choice-returns t c =
    choice_done c.args.vars.now c.args.branches.now c.args.other.now c.loop-branch.branch-index (option_map kind_seen c.common.result) c.loop-branch-test.false c.loop-branch.invariant.conditions
    (c.common.ensures _ c.loop-branch.invariant.kinds)
