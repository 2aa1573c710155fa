use Rattle.std.proofs.Common.{◌<◌, arith, sym, ◌∙◌, ap}
use Rattle.mo_alias.specs.Recognized.{sign_product}
use Rattle.mo_alias.proofs.Growing.{closed_agrees, closed_contradicts, forest_closed_next}
use Rattle.mo_alias.proofs.Joining.{join_forest, join_link, join_size}
use Rattle.mo_alias.proofs.classify.taken.Goals as goal

pub returns-then-one-other-clause-forest : goal.returns-then-one-other-clause-forest
returns-then-one-other-clause-forest c =
    let early : c.args.at < 18446744073709551615 = omega (arith, c.requires.at) in
    join_forest c.args._said.now c.args.trees.now c.join.new.self c.args.at c.requires.forest early c.args.alias c.requires.alias c.root-one.result.0 c.root-other.result.0 c.root-one.result.1 c.root-other.result.1
    c.sign_product-minus.result c.root-one.ensures.above c.root-other.ensures.above c.root-one.ensures.inside c.root-other.ensures.inside c.if-one-other.true
    (c.sign_product-minus.ensures ∙ ap (λ w. sign_product w c.args.alias.minus) c.sign_product.ensures) c.join.ensures

pub returns-then-one-other-clause-finding : goal.returns-then-one-other-clause-finding
returns-then-one-other-clause-finding c =
    let early : c.args.at < 18446744073709551615 = omega (arith, c.requires.at) in
    join_link c.args._said.now c.args.trees.now c.join.new.self c.args.at c.requires.forest early c.args.alias c.requires.alias c.root-one.result.0 c.root-other.result.0 c.root-one.result.1 c.root-other.result.1
    c.sign_product-minus.result c.root-one.ensures.above c.root-other.ensures.above c.root-one.ensures.inside c.root-other.ensures.inside c.if-one-other.true
    (c.sign_product-minus.ensures ∙ ap (λ w. sign_product w c.args.alias.minus) c.sign_product.ensures) c.join.ensures

pub returns-then-minus-clause-forest : goal.returns-then-minus-clause-forest
returns-then-minus-clause-forest c =
    let early : c.args.at < 18446744073709551615 = omega (arith, c.requires.at) in
    forest_closed_next c.args._said.now c.args.trees.now c.args.at c.requires.forest early c.args.alias c.requires.alias c.root-one.result.0 c.root-other.result.0 c.root-one.result.1 c.root-other.result.1
    c.root-one.ensures.above c.root-other.ensures.above c.if-one-other.false

pub returns-then-minus-clause-finding : goal.returns-then-minus-clause-finding
returns-then-minus-clause-finding c =
    let early : c.args.at < 18446744073709551615 = omega (arith, c.requires.at) in
    closed_contradicts c.args._said.now c.args.trees.now c.args.at c.requires.forest early c.args.alias c.requires.alias c.root-one.result.0 c.root-other.result.0 c.root-one.result.1 c.root-other.result.1
    c.root-one.ensures.above c.root-other.ensures.above c.if-one-other.false (sym (c.sign_product-minus.ensures ∙ ap (λ w. sign_product w c.args.alias.minus) c.sign_product.ensures) ∙ c.if-minus.true)

pub returns-else-minus-clause-forest : goal.returns-else-minus-clause-forest
returns-else-minus-clause-forest c =
    let early : c.args.at < 18446744073709551615 = omega (arith, c.requires.at) in
    forest_closed_next c.args._said.now c.args.trees.now c.args.at c.requires.forest early c.args.alias c.requires.alias c.root-one.result.0 c.root-other.result.0 c.root-one.result.1 c.root-other.result.1
    c.root-one.ensures.above c.root-other.ensures.above c.if-one-other.false

pub returns-else-minus-clause-finding : goal.returns-else-minus-clause-finding
returns-else-minus-clause-finding c =
    let early : c.args.at < 18446744073709551615 = omega (arith, c.requires.at) in
    closed_agrees c.args._said.now c.args.trees.now c.args.at c.requires.forest early c.args.alias c.requires.alias c.root-one.result.0 c.root-other.result.0 c.root-one.result.1 c.root-other.result.1
    c.root-one.ensures.above c.root-other.ensures.above c.if-one-other.false (sym (c.sign_product-minus.ensures ∙ ap (λ w. sign_product w c.args.alias.minus) c.sign_product.ensures) ∙ c.if-minus.false)

pub returns-then-one-other-clause-size : goal.returns-then-one-other-clause-size
returns-then-one-other-clause-size c =
    let early : c.args.at < 18446744073709551615 = omega (arith, c.requires.at) in
    join_size c.args._said.now c.args.trees.now c.join.new.self c.args.at c.requires.forest early c.args.alias c.requires.alias c.root-one.result.0 c.root-other.result.0 c.root-one.result.1 c.root-other.result.1
    c.sign_product-minus.result c.root-one.ensures.above c.root-other.ensures.above c.root-one.ensures.inside c.root-other.ensures.inside c.if-one-other.true
    (c.sign_product-minus.ensures ∙ ap (λ w. sign_product w c.args.alias.minus) c.sign_product.ensures) c.join.ensures
