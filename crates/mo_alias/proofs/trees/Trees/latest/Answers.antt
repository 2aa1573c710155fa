use Rattle.std.proofs.Common.{◌<◌, ◌≤◌, arith, ap}
use Rattle.mo_alias.specs.steps.Forests.{since_in}
use Rattle.mo_alias.proofs.Latest.{latest_first, latest_init, latest_second, second_early}
use Rattle.mo_alias.proofs.Reading.{ends_read, parent_read, since_read}
use Rattle.mo_alias.proofs.trees.Trees.latest.Goals as goal

pub loop-a-init : goal.loop-a-init
loop-a-init c = latest_init c.args.self.now c.requires.trees c.requires.once c.args.one c.args.other _ c.requires.apart c.requires.one c.requires.other c.requires.joined

pub loop-a-preserved-then-index : goal.loop-a-preserved-then-index
loop-a-preserved-then-index c =
    let i = c.loop-a.invariant in
    let sa = since_read c.args.self.now c.requires.trees c.loop-a.a i.one_inside c.index.result.now c.index.ensures in
    let sb = since_read c.args.self.now c.requires.trees c.loop-a.b i.other_inside c.index-in-loop-a.result.now c.index-in-loop-a.ensures in
    let ea = ends_read c.args.self.now c.requires.trees c.loop-a.a i.one_inside c.index-then-index.result.now c.index-then-index.ensures in
    let at = since_read c.args.self.now c.requires.trees c.loop-a.a i.one_inside c.index-then-index-2.result.now c.index-then-index-2.ensures in
    let p = parent_read c.args.self.now c.requires.trees c.loop-a.a i.one_inside c.index-a.result.now c.index-a.ensures in
    let less : since_in c.args.self.now c.loop-a.a < since_in c.args.self.now c.loop-a.b = (let h = c.if-index.true in omega (arith, h, sa, sb)) in
    let next = latest_first c.args.self.now c.requires.trees c.requires.once c.args.one c.args.other c.loop-a.a c.loop-a.b c.loop-a.last
    (record { at = c.index-then-index-2.result.now; near = c.index-then-index.result.now.0; far = c.index-then-index.result.now.1 }) i c.loop-a-test.true less at (ap (λ w. w.0) ea) (ap (λ w. w.1) ea) in
    rw p next

pub loop-a-preserved : goal.loop-a-preserved
loop-a-preserved c =
    let i = c.loop-a.invariant in
    let sa = since_read c.args.self.now c.requires.trees c.loop-a.a i.one_inside c.index.result.now c.index.ensures in
    let sb = since_read c.args.self.now c.requires.trees c.loop-a.b i.other_inside c.index-in-loop-a.result.now c.index-in-loop-a.ensures in
    let eb = ends_read c.args.self.now c.requires.trees c.loop-a.b i.other_inside c.index-else-index.result.now c.index-else-index.ensures in
    let at = since_read c.args.self.now c.requires.trees c.loop-a.b i.other_inside c.index-else-index-2.result.now c.index-else-index-2.ensures in
    let p = parent_read c.args.self.now c.requires.trees c.loop-a.b i.other_inside c.index-b.result.now c.index-b.ensures in
    let less : since_in c.args.self.now c.loop-a.b ≤ since_in c.args.self.now c.loop-a.a = (let h = c.if-index.false in omega (arith, h, sa, sb)) in
    let next = latest_second c.args.self.now c.requires.trees c.requires.once c.args.one c.args.other c.loop-a.a c.loop-a.b c.loop-a.last
    (record { at = c.index-else-index-2.result.now; near = c.index-else-index.result.now.1; far = c.index-else-index.result.now.0 }) i c.loop-a-test.true less at (ap (λ w. w.1) eb) (ap (λ w. w.0) eb) in
    rw p next

pub loop-a-smaller : goal.loop-a-smaller
loop-a-smaller c =
    let i = c.loop-a.invariant in
    let sa = since_read c.args.self.now c.requires.trees c.loop-a.a i.one_inside c.index.result.now c.index.ensures in
    let sb = since_read c.args.self.now c.requires.trees c.loop-a.b i.other_inside c.index-in-loop-a.result.now c.index-in-loop-a.ensures in
    let p = parent_read c.args.self.now c.requires.trees c.loop-a.b i.other_inside c.index-b.result.now c.index-b.ensures in
    let less : since_in c.args.self.now c.loop-a.b ≤ since_in c.args.self.now c.loop-a.a = (let h = c.if-index.false in omega (arith, h, sa, sb)) in
    let early = second_early c.args.self.now c.requires.trees c.requires.once c.args.one c.args.other c.loop-a.a c.loop-a.b c.loop-a.last i c.loop-a-test.true less in
    let rise = c.requires.trees.rises c.loop-a.b early in
    let rise' : since_in c.args.self.now c.loop-a.b < since_in c.args.self.now c.index-b.result.now = rw p rise in
    omega (arith, rise', early)

pub returns : goal.returns
returns c = c.loop-a.invariant.latest c.loop-a-test.false
