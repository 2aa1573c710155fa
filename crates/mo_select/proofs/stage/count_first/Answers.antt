use Rattle.std.proofs.Common.{arith}
use Rattle.mo_incidence.specs.Offsets.{by_place}
use Rattle.mo_select.proofs.Choosing.{count_low}
use Rattle.mo_select.proofs.stage.count_first.Goals as goal

pub overflow_add-count : goal.overflow_add-count
overflow_add-count c =
    let low = count_low (by_place c.args.pairs.now) c.loop-t.t in
    omega (arith, low, c.loop-t.invariant, c.requires)
