use Rattle.std.proofs.Common.{◌++◌, ◌∷◌, [], List, ap, ◌∙◌, arith, length}
use Rattle.mo_alias.specs.declared.chain.Stretch.{Stretch}
use Rattle.mo_alias.proofs.Splitting.{turn_begin, turn_done, turn_joined, turn_open, turn_skip, turn_skip_less, turn_split, turn_split_less}
use Rattle.mo_alias.proofs.chain.put_chain.Goals as goal

pub loop-stretch-init : goal.loop-stretch-init
loop-stretch-init c =
    turn_begin c.args._said.now c.args.trees.now (length c.args._said.now) c.requires.forest c.requires.within c.args.whole c.args.equations.now c.push.new.self.items
    (c.in_ok-push.ensures.items ∙ ap (λ (z : List Stretch). z ++ c.args.whole ∷ []) c.new-waiting.ensures.items) c.requires.joined

pub loop-stretch-smaller-then-stretch : goal.loop-stretch-smaller-then-stretch
loop-stretch-smaller-then-stretch c =
    turn_skip_less c.args._said.now c.args.trees.now (length c.args._said.now) c.requires.forest c.requires.within c.args.whole c.args.equations.now
    c.loop-stretch.waiting.items c.pop.new.self.items c.in-Some.stretch c.loop-stretch.equations c.in-Some.ensures.items c.loop-stretch.invariant

pub loop-stretch-preserved-then-stretch : goal.loop-stretch-preserved-then-stretch
loop-stretch-preserved-then-stretch c =
    turn_skip c.args._said.now c.args.trees.now (length c.args._said.now) c.requires.forest c.requires.within c.args.whole c.args.equations.now
    c.loop-stretch.waiting.items c.pop.new.self.items c.in-Some.stretch c.loop-stretch.equations c.in-Some.ensures.items c.loop-stretch.invariant c.if-stretch.true

pub latest-latest-requires-clause-one : goal.latest-latest-requires-clause-one
latest-latest-requires-clause-one c =
    (turn_open c.args._said.now c.args.trees.now (length c.args._said.now) c.requires.forest c.requires.within c.args.whole c.args.equations.now
    c.loop-stretch.waiting.items c.pop.new.self.items c.in-Some.stretch c.loop-stretch.equations c.in-Some.ensures.items c.loop-stretch.invariant).one

pub latest-latest-requires-clause-other : goal.latest-latest-requires-clause-other
latest-latest-requires-clause-other c =
    (turn_open c.args._said.now c.args.trees.now (length c.args._said.now) c.requires.forest c.requires.within c.args.whole c.args.equations.now
    c.loop-stretch.waiting.items c.pop.new.self.items c.in-Some.stretch c.loop-stretch.equations c.in-Some.ensures.items c.loop-stretch.invariant).other

pub latest-latest-requires-clause-joined : goal.latest-latest-requires-clause-joined
latest-latest-requires-clause-joined c =
    turn_joined c.args._said.now c.args.trees.now (length c.args._said.now) c.requires.forest c.requires.within c.args.whole c.args.equations.now
    c.loop-stretch.waiting.items c.pop.new.self.items c.in-Some.stretch c.loop-stretch.equations c.in-Some.ensures.items c.loop-stretch.invariant

pub loop-stretch-smaller : goal.loop-stretch-smaller
loop-stretch-smaller c =
    turn_split_less c.args._said.now c.args.trees.now (length c.args._said.now) c.requires.forest c.requires.within c.args.whole c.args.equations.now
    c.loop-stretch.waiting.items c.pop.new.self.items c.in-Some.stretch c.loop-stretch.equations c.in-Some.ensures.items c.loop-stretch.invariant
    c.latest-latest.result c.latest-latest.ensures c.push-in-Some-2.new.self.items
    (c.in_ok-push-3.ensures.items ∙ ap (λ (z : List Stretch). z ++ (record { one = c.latest-latest.result.far; other = c.in-Some.stretch.other; below = c.latest-latest.result.at }) ∷ []) c.in_ok-push-2.ensures.items)

pub loop-stretch-preserved : goal.loop-stretch-preserved
loop-stretch-preserved c =
    turn_split c.args._said.now c.args.trees.now (length c.args._said.now) c.requires.forest c.requires.within c.args.whole c.args.equations.now
    c.loop-stretch.waiting.items c.pop.new.self.items c.in-Some.stretch c.loop-stretch.equations c.in-Some.ensures.items c.loop-stretch.invariant
    c.latest-latest.result c.latest-latest.ensures c.push-in-Some-2.new.self.items
    (c.in_ok-push-3.ensures.items ∙ ap (λ (z : List Stretch). z ++ (record { one = c.latest-latest.result.far; other = c.in-Some.stretch.other; below = c.latest-latest.result.at }) ∷ []) c.in_ok-push-2.ensures.items)
    c.insert.new.self c.in_ok-number.field-0 c.in_ok-number.ensures c.in_ok-insert.ensures.updates

pub returns : goal.returns
returns c = turn_done c.args._said.now c.args.whole c.args.equations.now c.loop-stretch.waiting.items c.loop-stretch.equations (λ l. c.in_default.ensures.variant.1 (omega (arith, l, c.loop-stretch.waiting.ok))) c.loop-stretch.invariant.1
