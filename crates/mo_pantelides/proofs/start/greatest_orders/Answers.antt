use Rattle.std.proofs.Common.{◌≡◌, arith}
use Rattle.mo_incidence.specs.Signature.{equations, entries}
use Rattle.mo_pantelides.proofs.start.greatest_orders.Goals as goal

pub returns-clause-cost : goal.returns-clause-cost
unfolding entries
returns-clause-cost g c =
    let all : c.loop-row.row ≡ equations c.args.inc.now = omega (arith, c.equations-row-end.ensures.count) in
    rw all at c.loop-row.invariant.cost
