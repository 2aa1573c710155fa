use Rattle.std.proofs.Common.{false, arith, subst}
use Rattle.mo_alias.specs.steps.Climbing.{top}
use Rattle.mo_alias.specs.steps.Forests.{Reaches}
use Rattle.mo_alias.proofs.Reading.{root_step, since_read}
use Rattle.mo_alias.proofs.Signs.{product_plus}
use Rattle.mo_alias.proofs.trees.Trees.root.Goals as goal

pub loop-minus-preserved : goal.loop-minus-preserved
loop-minus-preserved c =
    root_step c.args.self.now c.requires.trees c.loop-minus.root c.loop-minus.invariant.0 c.args.unknown c.loop-minus.minus c.loop-minus.invariant.1
    c.index.result.now c.index.ensures c.loop-minus-test.true c.index-in-loop-minus.result.now c.index-in-loop-minus.ensures c.index-root.result.now c.index-root.ensures
    c.sign_product-minus.result c.sign_product-minus.ensures

pub returns-clause-above : goal.returns-clause-above
returns-clause-above c =
    let at = since_read c.args.self.now c.requires.trees c.loop-minus.root c.loop-minus.invariant.0 c.index.result.now c.index.ensures in
    let test = c.loop-minus-test.false in
    subst (λ w. Reaches c.args.self.now 18446744073709551615 c.args.unknown c.loop-minus.root w) (product_plus c.loop-minus.minus)
    (c.loop-minus.invariant.1 c.loop-minus.root false (top (omega (arith, at, test))))
