use Rattle.std.proofs.Common.{◌<◌, refl, arith, length}
use Rattle.mo_alias.proofs.Firsts.{first_read, turn_first, turn_gone}
use Rattle.mo_alias.proofs.find.take.Goals as goal

pub returns-in-None-clause-taken : goal.returns-in-None-clause-taken
returns-in-None-clause-taken c =
    let inside : c.root-root.result.0 < length c.args.firsts.now.items = (let i = c.root-root.ensures.inside in omega (arith, i, c.requires.size)) in
    λ root sign roots before.
    turn_first c.args.trees.now c.args.unknown c.args.firsts.now.items c.args.gone.now c.root-root.result.0 c.root-root.result.1 c.root-root.ensures.above inside root sign roots before
    (first_read c.args.firsts.now.items c.root-root.result.0 c.index.result.now _ c.index.ensures c.in-None.is inside)

pub returns-in_ok-push-in-Some-clause-taken : goal.returns-in_ok-push-in-Some-clause-taken
returns-in_ok-push-in-Some-clause-taken c =
    let inside : c.root-root.result.0 < length c.args.firsts.now.items = (let i = c.root-root.ensures.inside in omega (arith, i, c.requires.size)) in
    rw c.in_ok-push-in-Some.ensures.ok (λ root sign roots before.
    turn_gone c.args.trees.now c.args.unknown c.args.firsts.now.items c.args.gone.now c.root-root.result.0 c.root-root.result.1 c.root-root.ensures.above inside root sign roots before
    c.in-Some.of c.in-Some.sign (first_read c.args.firsts.now.items c.root-root.result.0 c.index.result.now _ c.index.ensures c.in-Some.is inside) _ refl refl c.sign_product.ensures)
