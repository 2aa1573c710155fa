use Rattle.std.proofs.Common.{◌≡◌, ◌∙◌, ◌+◌, ap, sym, map, refl, arith}
use Rattle.std.specs.Prelude.{◌&&◌}
use Rattle.std.specs.List.{list_all}
use Rattle.mo_flat.specs.declared.expr.FlatExpr.TheVariants.{All, Any, Call, Der, If, Not, Power, Product, Relation, Sum}
use Rattle.mo_symdiff.specs.Derivative.{derived, power_slope, sum_of}
use Rattle.mo_symdiff.specs.Still.{is_still}
use Rattle.mo_symdiff.proofs.Tests.{still_Sum, still_Product, still_Call, still_All, still_Any, still_If}
use Rattle.mo_symdiff.proofs.Derived.{at_Whole, at_Decimal, at_Str, at_Truth, at_Literal, at_Time, derived_All, derived_Any, derived_Call, derived_Der, derived_If, derived_Not, derived_Power, derived_Product, derived_Relation, derived_Sum, product_turn, rest_of, step, still_Der, still_Not, still_Power, still_Relation, sum_turn}
use Rattle.mo_symdiff.proofs.derive.+slope.Goals as goal

pub terms_of_sum-loop-term-preserved : goal.terms_of_sum-loop-term-preserved
terms_of_sum-loop-term-preserved t c =
    sum_turn c.args.vars.now c.args.terms.now c.loop-term.term-index c.term-item.result c.loop-term.still c.in_ok-slope.slope.still _ c.loop-term.made _ c.in_ok-slope.slope.tree
    c.loop-term-test.true c.term-item.is c.loop-term.invariant.0 c.loop-term.invariant.1 c.in_ok-slope.ensures.0 c.in_ok-slope.ensures.1 c.and-still.ensures c.in_ok-push_moving.ensures

pub terms_of_product-loop-i-preserved : goal.terms_of_product-loop-i-preserved
terms_of_product-loop-i-preserved t c =
    product_turn c.args.vars.now c.args.factors.now c.loop-i.i c.index-factors-i.result c.index-factors-i.result c.loop-i.still c.in_ok-slope.slope.still _ c.loop-i.made _ _ _ c.in_ok-slope.slope.tree
    c.loop-i-test.true c.index-factors-i.is refl (rest_of c.args.factors.now (c.loop-i.i + 1) (omega (arith, c.loop-i-test.true))) c.loop-i.invariant.0 c.loop-i.invariant.1 c.in_ok-slope.ensures.0 c.in_ok-slope.ensures.1 c.and-still.ensures c.in_ok-push_replaced.ensures

pub of_all-returns : goal.of_all-returns
of_all-returns t c = step c.args.vars.now (All c.args.parts.now) _ _ (still_All _ _) (derived_All _ _) _ _ c.in_ok-still.ensures.0 (ap All c.in_ok-still.ensures.1) _ _ c.unless_still.ensures.still c.unless_still.ensures.tree

pub of_any-returns : goal.of_any-returns
of_any-returns t c = step c.args.vars.now (Any c.args.parts.now) _ _ (still_Any _ _) (derived_Any _ _) _ _ c.in_ok-still.ensures.0 (ap Any c.in_ok-still.ensures.1) _ _ c.unless_still.ensures.still c.unless_still.ensures.tree

pub of_call-returns : goal.of_call-returns
of_call-returns t c = step c.args.vars.now (Call c.args.function c.args.args.now) _ _ (still_Call _ _ _) (derived_Call _ _ _) _ _ c.in_ok-still.ensures.0 (c.in_ok-tree.ensures (derived c.args.vars.now) c.in_ok-still.ensures.1) _ _ c.unless_still.ensures.still c.unless_still.ensures.tree

pub of_der-returns : goal.of_der-returns
of_der-returns t c = step c.args.vars.now (Der c.args.inner.now) _ _ (still_Der _ _) (derived_Der _ _) _ _ c.in_ok-inner.ensures.0 (ap Der (c.in_ok-new.ensures ∙ c.in_ok-inner.ensures.1)) _ _ c.unless_still.ensures.still c.unless_still.ensures.tree

pub of_not-returns : goal.of_not-returns
of_not-returns t c = step c.args.vars.now (Not c.args.inner.now) _ _ (still_Not _ _) (derived_Not _ _) _ _ c.in_ok-inner.ensures.0 (ap Not (c.in_ok-new.ensures ∙ c.in_ok-inner.ensures.1)) _ _ c.unless_still.ensures.still c.unless_still.ensures.tree

pub of_product-returns : goal.of_product-returns
of_product-returns t c = step c.args.vars.now (Product c.args.factors.now) _ _ (still_Product _ _) (derived_Product _ _) _ _ c.in_ok-still.ensures.0 (c.chain.ensures ∙ ap sum_of c.in_ok-still.ensures.1) _ _ c.unless_still.ensures.still c.unless_still.ensures.tree

pub of_sum-returns : goal.of_sum-returns
of_sum-returns t c = step c.args.vars.now (Sum c.args.terms.now) _ _ (still_Sum _ _) (derived_Sum _ _) _ _ c.in_ok-still.ensures.0 (c.chain.ensures ∙ ap sum_of c.in_ok-still.ensures.1) _ _ c.unless_still.ensures.still c.unless_still.ensures.tree

pub of_if-returns : goal.of_if-returns
of_if-returns t c =
    let vars = c.args.vars.now in
    let values : (c.in_ok-still.still ≡ list_all (λ x. is_still vars x.1) c.args.branches.now) × (c.in_ok-still.slopes ≡ map (λ b. (b.0, derived vars b.1)) c.args.branches.now) =
    rw c.in_ok-still.ensures.values.0 at c.slopes_of_values-values.ensures in
    let other : (c.in_ok-still.other.still ≡ is_still vars c.args.other.now) × (c.in_ok-still.other.tree ≡ derived vars c.args.other.now) = rw c.in_ok-still.ensures.values.1 at c.slope.ensures in
    step vars (If c.args.branches.now c.args.other.now) _ _ (still_If _ _ _) (derived_If _ _ _) _ _
    (c.and-still.ensures ∙ ap (λ b. b && c.in_ok-still.other.still) values.0 ∙ ap (λ b. list_all (λ x. is_still vars x.1) c.args.branches.now && b) other.0)
    (c.in_ok-tree.ensures ∙ ap (λ l. If l c.in_ok-still.other.tree) values.1 ∙ ap (λ o. If (map (λ b. (b.0, derived vars b.1)) c.args.branches.now) o) other.1) _ _ c.unless_still.ensures.still c.unless_still.ensures.tree

pub of_relation-returns : goal.of_relation-returns
of_relation-returns t c =
    let vars = c.args.vars.now in
    let op = c.args.op in
    let p : (c.in_ok-p.p.still ≡ is_still vars c.args.left.now) × (c.in_ok-p.p.tree ≡ derived vars c.args.left.now) = rw c.in_ok-p.ensures.values.0 at c.slope.ensures in
    let q : (c.in_ok-p.q.still ≡ is_still vars c.args.right.now) × (c.in_ok-p.q.tree ≡ derived vars c.args.right.now) = rw c.in_ok-p.ensures.values.1 at c.slope-2.ensures in
    let l : c.in_ok-left.left ≡ c.in_ok-p.p.tree = rw c.in_ok-left.ensures.values.0 at c.new.ensures in
    let r : c.in_ok-left.right ≡ c.in_ok-p.q.tree = rw c.in_ok-left.ensures.values.1 at c.new-2.ensures in
    step vars (Relation op c.args.left.now c.args.right.now) _ _ (still_Relation _ _ _ _) (derived_Relation _ _ _ _) _ _
    (c.and-still.ensures ∙ ap (λ b. b && c.in_ok-p.q.still) p.0 ∙ ap (λ b. is_still vars c.args.left.now && b) q.0)
    (ap (λ x. Relation op x c.in_ok-left.right) (l ∙ p.1) ∙ ap (λ x. Relation op (derived vars c.args.left.now) x) (r ∙ q.1)) _ _ c.unless_still.ensures.still c.unless_still.ensures.tree

pub of_power-returns : goal.of_power-returns
of_power-returns t c =
    let vars = c.args.vars.now in
    let p : (c.in_ok-p.p.still ≡ is_still vars c.args.base.now) × (c.in_ok-p.p.tree ≡ derived vars c.args.base.now) = rw c.in_ok-p.ensures.values.0 at c.slope.ensures in
    let q : (c.in_ok-p.q.still ≡ is_still vars c.args.exponent.now) × (c.in_ok-p.q.tree ≡ derived vars c.args.exponent.now) = rw c.in_ok-p.ensures.values.1 at c.slope-2.ensures in
    step vars (Power c.args.base.now c.args.exponent.now) _ _ (still_Power _ _ _) (derived_Power _ _ _) _ _
    (c.and-still.ensures ∙ ap (λ b. b && c.in_ok-p.q.still) p.0 ∙ ap (λ b. is_still vars c.args.base.now && b) q.0)
    (c.in_ok-tree.ensures vars (sym p.0) (sym q.0) ∙ ap (λ x. power_slope vars (c.args.base.now, x) (c.args.exponent.now, c.in_ok-p.q.tree)) p.1
    ∙ ap (λ x. power_slope vars (c.args.base.now, derived vars c.args.base.now) (c.args.exponent.now, x)) q.1) _ _ c.unless_still.ensures.still c.unless_still.ensures.tree

pub slope-returns-in-Whole : goal.slope-returns-in-Whole
slope-returns-in-Whole t c = rw c.in-Whole.is (c.stays.ensures.still ∙ (at_Whole _ _).0, c.stays.ensures.tree ∙ (at_Whole _ _).1)

pub slope-returns-in-Decimal : goal.slope-returns-in-Decimal
slope-returns-in-Decimal t c = rw c.in-Decimal.is (c.stays-in-Decimal.ensures.still ∙ (at_Decimal _ _).0, c.stays-in-Decimal.ensures.tree ∙ (at_Decimal _ _).1)

pub slope-returns-in-Str : goal.slope-returns-in-Str
slope-returns-in-Str t c = rw c.in-Str.is (c.stays-in-Str.ensures.still ∙ (at_Str _ _).0, c.stays-in-Str.ensures.tree ∙ (at_Str _ _).1)

pub slope-returns-in-Truth : goal.slope-returns-in-Truth
slope-returns-in-Truth t c = rw c.in-Truth.is (c.stays-in-Truth.ensures.still ∙ (at_Truth _ _).0, c.stays-in-Truth.ensures.tree ∙ (at_Truth _ _).1)

pub slope-returns-in-Literal : goal.slope-returns-in-Literal
slope-returns-in-Literal t c = rw c.in-Literal.is (c.stays-in-Literal.ensures.still ∙ (at_Literal _ _).0, c.stays-in-Literal.ensures.tree ∙ (at_Literal _ _).1)

pub slope-returns-in-Time : goal.slope-returns-in-Time
slope-returns-in-Time t c = rw c.in-Time.is (c.unless_still.ensures.still ∙ (at_Time _).0, c.unless_still.ensures.tree ∙ (at_Time _).1)
