use Rattle.std.proofs.Common.{◌<◌, ◌≤◌, length, slice_index_or, arith, sym, ◌∙◌, rules}
use Rattle.mo_graph.specs.steps.Placing.{leads_away}
use Rattle.mo_graph.proofs.Places.{waiting_none, count_pass, count_one, count_small}
use Rattle.mo_graph.proofs.place.count_waits.Goals as goal

pub loop-x-init : goal.loop-x-init
loop-x-init c = λ b l. c.requires.clear b ∙ sym (waiting_none c.args.sources.now (leads_away c.args.sources.now c.args.targets.now) 0 b (λ x xl. absurd (omega arith)))

pub loop-x-preserved-then-source-targets : goal.loop-x-preserved-then-source-targets
loop-x-preserved-then-source-targets c =
    let known : slice_index_or c.args.sources.now c.loop-x.x 0 < length c.loop-x.waits = omega (arith, c.requires.graph.source c.loop-x.x (omega arith)) in
    count_pass _ _ _ c.loop-x.x known c.loop-x.invariant c.if-source-targets.true

pub overflow_add-waits : goal.overflow_add-waits
overflow_add-waits c =
    let known : slice_index_or c.args.sources.now c.loop-x.x 0 < length c.loop-x.waits = omega (arith, c.requires.graph.source c.loop-x.x (omega arith)) in
    let small = count_small _ _ _ c.loop-x.x known c.loop-x.invariant (slice_index_or c.args.sources.now c.loop-x.x 0) in
    let is = c.loop-x.invariant (slice_index_or c.args.sources.now c.loop-x.x 0) known in
    let low : slice_index_or c.loop-x.waits (slice_index_or c.args.sources.now c.loop-x.x 0) 0 ≤ 1000000 = omega (arith, c.requires.graph.few) in
    search (rules, arith)

pub loop-x-preserved : goal.loop-x-preserved
loop-x-preserved c =
    let known : slice_index_or c.args.sources.now c.loop-x.x 0 < length c.loop-x.waits = omega (arith, c.requires.graph.source c.loop-x.x (omega arith)) in
    count_one _ _ _ c.loop-x.x known c.loop-x.invariant c.if-source-targets.false
