use Rattle.std.proofs.Common.{◌∙◌, ap}
use Rattle.std.specs.Prelude.{if◌then◌else◌}
use Rattle.mo_symdiff.specs.Weights.{node_weight}
use Rattle.mo_symdiff.proofs.Weighing.{joined_weighs}
use Rattle.mo_symdiff.proofs.sizes.of_terms.Goals as goal

pub returns-clause-slope : goal.returns-clause-slope
returns-clause-slope c vars parts terms h =
    let m = c.args.measure in
    let slope = joined_weighs vars m parts terms _ _ _ _ _ _ _ h c.joined-slope.ensures (λ is. c.add.ensures _ _ c.node_weight-node.ensures.stops is) in
    c.settled.ensures.slope ∙ ap (λ n. if c.args.all.still then node_weight m else n) slope
