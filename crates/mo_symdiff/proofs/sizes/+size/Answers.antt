use Rattle.std.proofs.Common.{◌∙◌, ap, sym, [], take, map}
use Rattle.std.specs.Prelude.{if◌then◌else◌}
use Rattle.mo_flat.specs.declared.expr.FlatExpr.TheVariants.{All, Any, Call, Der, If, Not, Power, Product, Relation, Sum}
use Rattle.mo_symdiff.specs.Derivative.{args_slope, derived, moving_terms, power_slope, product_terms, sum_of, with_slopes}
use Rattle.mo_symdiff.specs.Weights.{AreBranchSizes, AreSizes, AreTermSizes, capped, node_weight, weigh}
use Rattle.mo_symdiff.proofs.Derived.{at_Whole as made_Whole, at_Decimal as made_Decimal, at_Str as made_Str, at_Truth as made_Truth, at_Literal as made_Literal, derived_All, derived_Any, derived_Call, derived_Der, derived_If, derived_Not, derived_Power, derived_Product, derived_Relation, derived_Sum, still_Der, still_Not, still_Power, still_Relation}
use Rattle.mo_symdiff.proofs.Tests.{still_All, still_Any, still_Call, still_If, still_Product, still_Sum}
use Rattle.mo_symdiff.proofs.Weighing.{args_weigh, at_All, at_All_slopes, at_Any, at_Any_slopes, at_Call, at_Decimal, at_Der, at_If, at_If_slopes, at_Literal, at_Not, at_Power, at_Product, at_Relation, at_Str, at_Sum, at_Truth, at_Whole, both_are, by_row, leaf_sized, next_of, node_stops, parts_more, sized, sized_around, sized_settled, time_sized}
use Rattle.mo_symdiff.proofs.sizes.+size.Goals as goal

pub of_parts-loop-part-init : goal.of_parts-loop-part-init
of_parts-loop-part-init t c = record { still_is = c.nothing-all.ensures.still; whole_is = c.nothing-all.ensures.whole; slope_is = c.nothing-all.ensures.slope }

pub of_branches-loop-branch-init : goal.of_branches-loop-branch-init
of_branches-loop-branch-init t c = record { still_is = c.nothing-all.ensures.still; whole_is = c.nothing-all.ensures.whole; slope_is = c.nothing-all.ensures.slope }

pub of_all_terms-loop-term-init : goal.of_all_terms-loop-term-init
of_all_terms-loop-term-init t c =
    let none = c.no_terms-all.ensures in
    record { still_is = none.still; whole_is = none.whole; slope_is = none.slope; moving_is = none.moving; minus_is = none.minus }

pub of_all_factors-loop-factor-init : goal.of_all_factors-loop-factor-init
of_all_factors-loop-factor-init t c =
    let none = c.no_terms-all.ensures in
    record { still_is = none.still; whole_is = none.whole; slope_is = none.slope; moving_is = none.moving; minus_is = none.minus }

pub of_parts-loop-part-preserved : goal.of_parts-loop-part-preserved
of_parts-loop-part-preserved t c =
    let all = c.loop-part.invariant in
    let one = c.size_of.ensures in
    let vars = c.args.vars.now in
    let m = c.args.measure in
    let i = c.loop-part.part-index in
    next_of (λ es. AreSizes vars m es c.both-all.result.still c.both-all.result.whole c.both-all.result.slope) c.args.parts.now i c.part-item.result c.loop-part-test.true c.part-item.is
    (parts_more vars m (take i c.args.parts.now) c.part-item.result _ _ _ _ _ _ _ _ _ all one c.both-all.ensures.still (c.both-all.ensures.whole _ _ all.whole_is one.whole_is) (c.both-all.ensures.slope _ _ all.slope_is one.slope_is))

pub of_branches-loop-branch-preserved : goal.of_branches-loop-branch-preserved
of_branches-loop-branch-preserved t c =
    let vars = c.args.vars.now in
    let m = c.args.measure in
    let i = c.loop-branch.branch-index in
    let x = c.branch-item.result in
    next_of (λ bs. AreBranchSizes vars m bs c.with_branch-all.result.still c.with_branch-all.result.whole c.with_branch-all.result.slope) c.args.branches.now i x c.loop-branch-test.true c.branch-item.is
    (c.with_branch-all.ensures vars m (take i c.args.branches.now) x.0 x.1 c.loop-branch.invariant c.size_of-condition.ensures c.size_of-value.ensures)

pub of_all_terms-loop-term-preserved : goal.of_all_terms-loop-term-preserved
of_all_terms-loop-term-preserved t c =
    let vars = c.args.vars.now in
    let m = c.args.measure in
    let i = c.loop-term.term-index in
    let x = c.term-item.result in
    let made = c.with_term-all.result in
    next_of (λ ts. AreTermSizes vars m ts (moving_terms vars (with_slopes vars ts)) made.still made.minus made.whole made.slope made.moving) c.args.terms.now i x c.loop-term-test.true c.term-item.is
    (c.with_term-all.ensures vars m (take i c.args.terms.now) x.1 c.loop-term.invariant c.size_of-one.ensures)

pub of_all_factors-loop-factor-preserved : goal.of_all_factors-loop-factor-preserved
of_all_factors-loop-factor-preserved t c =
    let vars = c.args.vars.now in
    let m = c.args.measure in
    let i = c.loop-factor.factor-index in
    let x = c.factor-item.result in
    let made = c.with_factor-all.result in
    next_of (λ ts. AreTermSizes vars m ts (product_terms vars [] (with_slopes vars ts)) made.still made.minus made.whole made.slope made.moving) c.args.factors.now i x c.loop-factor-test.true c.factor-item.is
    (c.with_factor-all.ensures vars (take i c.args.factors.now) x.1 c.loop-factor.invariant c.size_of-one.ensures)

pub of_sum-returns : goal.of_sum-returns
of_sum-returns t c =
    let vars = c.args.vars.now in
    let m = c.args.measure in
    let terms = c.args.terms.now in
    let all = c.of_all_terms.ensures in
    sized vars m (Sum terms) (sum_of (moving_terms vars (with_slopes vars terms))) _ _ (still_Sum vars terms) (derived_Sum vars terms) (at_Sum vars m terms) _ _ _ (c.of_terms.ensures.still ∙ all.still_is) (c.of_terms.ensures.whole _ all.whole_is)
    (c.of_terms.ensures.slope vars terms (moving_terms vars (with_slopes vars terms)) all ∙ ap (λ b. if b then node_weight m else capped (weigh vars m (sum_of (moving_terms vars (with_slopes vars terms))))) all.still_is)

pub of_product-returns : goal.of_product-returns
of_product-returns t c =
    let vars = c.args.vars.now in
    let m = c.args.measure in
    let factors = c.args.factors.now in
    let all = c.of_all_factors.ensures in
    sized vars m (Product factors) (sum_of (product_terms vars [] (with_slopes vars factors))) _ _ (still_Product vars factors) (derived_Product vars factors) (at_Product vars m factors) _ _ _ (c.of_terms.ensures.still ∙ all.still_is) (c.of_terms.ensures.whole _ all.whole_is)
    (c.of_terms.ensures.slope vars factors (product_terms vars [] (with_slopes vars factors)) all ∙ ap (λ b. if b then node_weight m else capped (weigh vars m (sum_of (product_terms vars [] (with_slopes vars factors))))) all.still_is)

pub of_power-returns : goal.of_power-returns
of_power-returns t c =
    let vars = c.args.vars.now in
    let m = c.args.measure in
    let a = c.args.base.now in
    let b = c.args.exponent.now in
    let p = c.size_of-a.ensures in
    let q = c.size_of-b.ensures in
    sized_settled vars m (Power a b) (power_slope vars (a, derived vars a) (b, derived vars b)) _ _ (still_Power vars a b) (derived_Power vars a b) (at_Power vars m a b) _ _ _ _ _ _ (both_are vars m _ _ _ _ _ c.and.ensures p.still_is q.still_is)
    (c.add-whole.ensures _ _ c.node_weight.ensures.stops (c.add.ensures _ _ p.whole_is q.whole_is)) (c.power_weight-slope.ensures vars a p q) c.settled.ensures.still c.settled.ensures.whole c.settled.ensures.slope

pub of_call-returns : goal.of_call-returns
of_call-returns t c =
    let vars = c.args.vars.now in
    let m = c.args.measure in
    let f = c.args.function in
    let args = c.args.args.now in
    let all = c.of_parts-all.ensures in
    sized_settled vars m (Call f args) (args_slope f (map (λ e. (e, derived vars e)) args)) _ _ (still_Call vars f args) (derived_Call vars f args) (at_Call vars m f args) _ _ _ _ _ _ all.still_is
    (c.add-whole.ensures _ _ c.node_weight.ensures.stops all.whole_is) (by_row vars m _ _ _ _ _ _ (args_weigh vars m f args) c.args_row.ensures (c.row_weight-slope.ensures _ _ all.whole_is all.slope_is))
    c.settled.ensures.still c.settled.ensures.whole c.settled.ensures.slope

pub of_relation-returns : goal.of_relation-returns
of_relation-returns t c =
    let vars = c.args.vars.now in
    let m = c.args.measure in
    let op = c.args.op in
    let a = c.args.left.now in
    let b = c.args.right.now in
    let p = c.size_of-a.ensures in
    let q = c.size_of-b.ensures in
    sized_around vars m (Relation op a b) (Relation op (derived vars a) (derived vars b)) _ _ _ (still_Relation vars op a b) (derived_Relation vars op a b) (at_Relation vars m op a b) (at_Relation vars m op (derived vars a) (derived vars b)) _ _ _ _
    (both_are vars m _ _ _ _ _ c.both.ensures.still p.still_is q.still_is) c.around.ensures.still (c.around.ensures.whole _ (c.both.ensures.whole _ _ p.whole_is q.whole_is)) (c.around.ensures.slope _ (c.both.ensures.slope _ _ p.slope_is q.slope_is))

pub of_if-returns : goal.of_if-returns
of_if-returns t c =
    let vars = c.args.vars.now in
    let m = c.args.measure in
    let bs = c.args.branches.now in
    let o = c.args.other.now in
    let p = c.of_branches-a.ensures in
    let q = c.size_of-b.ensures in
    sized_around vars m (If bs o) (If (map (λ b. (b.0, derived vars b.1)) bs) (derived vars o)) _ _ _ (still_If vars bs o) (derived_If vars bs o) (at_If vars m bs o) (at_If_slopes vars m bs o) _ _ _ _
    (both_are vars m _ _ _ _ _ c.both.ensures.still p.still_is q.still_is) c.around.ensures.still (c.around.ensures.whole _ (c.both.ensures.whole _ _ p.whole_is q.whole_is)) (c.around.ensures.slope _ (c.both.ensures.slope _ _ p.slope_is q.slope_is))

pub of_der-returns : goal.of_der-returns
of_der-returns t c =
    let vars = c.args.vars.now in
    let m = c.args.measure in
    let a = c.args.inner.now in
    let one = c.size_of.ensures in
    sized_around vars m (Der a) (Der (derived vars a)) _ _ _ (still_Der vars a) (derived_Der vars a) (at_Der vars m a) (at_Der vars m (derived vars a)) _ _ _ _ one.still_is c.around.ensures.still (c.around.ensures.whole _ one.whole_is) (c.around.ensures.slope _ one.slope_is)

pub of_not-returns : goal.of_not-returns
of_not-returns t c =
    let vars = c.args.vars.now in
    let m = c.args.measure in
    let a = c.args.inner.now in
    let one = c.size_of.ensures in
    sized_around vars m (Not a) (Not (derived vars a)) _ _ _ (still_Not vars a) (derived_Not vars a) (at_Not vars m a) (at_Not vars m (derived vars a)) _ _ _ _ one.still_is c.around.ensures.still (c.around.ensures.whole _ one.whole_is) (c.around.ensures.slope _ one.slope_is)

pub of_all-returns : goal.of_all-returns
of_all-returns t c =
    let vars = c.args.vars.now in
    let m = c.args.measure in
    let es = c.args.parts.now in
    let all = c.of_parts.ensures in
    sized_around vars m (All es) (All (map (derived vars) es)) _ _ _ (still_All vars es) (derived_All vars es) (at_All vars m es) (at_All_slopes vars m es) _ _ _ _ all.still_is c.around.ensures.still (c.around.ensures.whole _ all.whole_is) (c.around.ensures.slope _ all.slope_is)

pub of_any-returns : goal.of_any-returns
of_any-returns t c =
    let vars = c.args.vars.now in
    let m = c.args.measure in
    let es = c.args.parts.now in
    let all = c.of_parts.ensures in
    sized_around vars m (Any es) (Any (map (derived vars) es)) _ _ _ (still_Any vars es) (derived_Any vars es) (at_Any vars m es) (at_Any_slopes vars m es) _ _ _ _ all.still_is c.around.ensures.still (c.around.ensures.whole _ all.whole_is) (c.around.ensures.slope _ all.slope_is)

pub size_of-returns-in-Whole : goal.size_of-returns-in-Whole
size_of-returns-in-Whole t c =
    let made = c.of_node.ensures in
    rw c.in-Whole.is (leaf_sized c.args.vars.now c.args.measure _ _ (made_Whole _ _) (at_Whole _ _ _) _ _ _ made.still (made.whole ∙ sym (node_stops c.args.measure)) made.slope)

pub size_of-returns-in-Truth : goal.size_of-returns-in-Truth
size_of-returns-in-Truth t c =
    let made = c.of_node-in-Truth.ensures in
    rw c.in-Truth.is (leaf_sized c.args.vars.now c.args.measure _ _ (made_Truth _ _) (at_Truth _ _ _) _ _ _ made.still (made.whole ∙ sym (node_stops c.args.measure)) made.slope)

pub size_of-returns-in-Decimal : goal.size_of-returns-in-Decimal
size_of-returns-in-Decimal t c =
    let made = c.of_literal.ensures in
    rw c.in-Decimal.is (leaf_sized c.args.vars.now c.args.measure _ _ (made_Decimal _ _) (at_Decimal _ _ _) _ _ _ made.still made.whole made.slope)

pub size_of-returns-in-Str : goal.size_of-returns-in-Str
size_of-returns-in-Str t c =
    let made = c.of_literal-in-Str.ensures in
    rw c.in-Str.is (leaf_sized c.args.vars.now c.args.measure _ _ (made_Str _ _) (at_Str _ _ _) _ _ _ made.still made.whole made.slope)

pub size_of-returns-in-Literal : goal.size_of-returns-in-Literal
size_of-returns-in-Literal t c =
    let made = c.of_literal-in-Literal.ensures in
    rw c.in-Literal.is (leaf_sized c.args.vars.now c.args.measure _ _ (made_Literal _ _) (at_Literal _ _ _) _ _ _ made.still made.whole made.slope)

pub size_of-returns-in-Time : goal.size_of-returns-in-Time
size_of-returns-in-Time t c = rw c.in-Time.is (time_sized c.args.vars.now c.args.measure _ _ _ c.of_time.ensures.still c.of_time.ensures.whole c.of_time.ensures.slope)
