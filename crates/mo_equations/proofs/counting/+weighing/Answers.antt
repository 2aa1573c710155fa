use Rattle.std.proofs.Common.{◌≡◌, ℕ, ◌+◌, Bool, take, ap, sym, ◌∙◌, arith}
use Rattle.std.specs.Prelude.{sum_by}
use Rattle.std.proofs.lemmas.List.Sums.{sum_by_more}
use Rattle.std.proofs.lemmas.Grind.{common_steps}
use Rattle.mo_equations.proofs.Weighed.{at_Sum, at_Product, at_Call, at_All, at_Any, at_If}
use Rattle.mo_flat.specs.declared.expr.FlatExpr.{FlatExpr}
use Rattle.mo_equations.specs.steps.Counting.{weight, weight_at}
use Rattle.mo_equations.specs.steps.Flats.{capped}
use Rattle.mo_equations.proofs.counting.+weighing.Goals as goal

pub weight-returns-in-Sum : goal.weight-returns-in-Sum
weight-returns-in-Sum t c = rw (c.in-Sum.is, at_Sum (weight_at c.args.replaced.now) c.in-Sum.terms) (grind (arith, common_steps))

pub weight-returns-in-Product : goal.weight-returns-in-Product
weight-returns-in-Product t c = rw (c.in-Product.is, at_Product (weight_at c.args.replaced.now) c.in-Product.factors) (grind (arith, common_steps))

pub weight-returns-in-Call : goal.weight-returns-in-Call
weight-returns-in-Call t c = rw (c.in-Call.is, at_Call (weight_at c.args.replaced.now) _ c.in-Call.args) (grind (arith, common_steps))

pub weight-returns-in-All : goal.weight-returns-in-All
weight-returns-in-All t c = rw (c.in-All.is, at_All (weight_at c.args.replaced.now) c.in-All.parts) (grind (arith, common_steps))

pub weight-returns-in-Any : goal.weight-returns-in-Any
weight-returns-in-Any t c = rw (c.in-Any.is, at_Any (weight_at c.args.replaced.now) c.in-Any.parts) (grind (arith, common_steps))

pub weight-returns-in-If : goal.weight-returns-in-If
weight-returns-in-If t c = rw (c.in-If.is, at_If (weight_at c.args.replaced.now) c.in-If.branches c.in-If.other) (grind (arith, common_steps))

-- a count with more behind it
more : (all s w x r t : ℕ) → all ≡ capped s → t ≡ s + w → x ≡ capped w → r ≡ capped (all + x) → r ≡ capped t
more all s w x r t a b d e = omega (arith, a, b, d, e)

two_more : (all s v w x y q r t : ℕ) → all ≡ capped s → t ≡ s + (v + w) → x ≡ capped v → y ≡ capped w → q ≡ capped (all + x) → r ≡ capped (q + y) → r ≡ capped t
two_more all s v w x y q r t a b d e f g = omega (arith, a, b, d, e, f, g)

pub weight_branches-loop-branch-preserved : goal.weight_branches-loop-branch-preserved
weight_branches-loop-branch-preserved t c =
    let w = weight (weight_at c.args.replaced.now) in
    let both = λ (branch : FlatExpr × FlatExpr). w branch.0 + w branch.1 in
    let i = c.loop-branch.branch-index in
    let item = c.branch-item.result in
    let sums : sum_by both (take (i + 1) c.args.branches.now) ≡ sum_by both (take i c.args.branches.now) + both item =
    sum_by_more both c.args.branches.now i item c.loop-branch-test.true ∙ ap (λ (b : FlatExpr × FlatExpr). sum_by both (take i c.args.branches.now) + both b) (sym c.branch-item.is) in
    two_more c.loop-branch.all (sum_by both (take i c.args.branches.now)) (w item.0) (w item.1) c.weight.result c.weight-in-loop-branch.result c.saturating_add.result c.saturating_add-all.result _
    c.loop-branch.invariant sums c.weight.ensures c.weight-in-loop-branch.ensures c.saturating_add.ensures c.saturating_add-all.ensures

pub weight_signed-loop-term-preserved : goal.weight_signed-loop-term-preserved
weight_signed-loop-term-preserved t c =
    let w = weight (weight_at c.args.replaced.now) in
    let one = λ (term : Bool × FlatExpr). w term.1 in
    let i = c.loop-term.term-index in
    let item = c.term-item.result in
    let sums : sum_by one (take (i + 1) c.args.terms.now) ≡ sum_by one (take i c.args.terms.now) + one item =
    sum_by_more one c.args.terms.now i item c.loop-term-test.true ∙ ap (λ (b : Bool × FlatExpr). sum_by one (take i c.args.terms.now) + one b) (sym c.term-item.is) in
    more c.loop-term.all (sum_by one (take i c.args.terms.now)) (w item.1) c.weight.result c.saturating_add-all.result _
    c.loop-term.invariant sums c.weight.ensures c.saturating_add-all.ensures
