use Rattle.std.proofs.Common.{◌<◌, length, arith}
use Rattle.mo_values.proofs.Splitting.{split_none, split_more, dims_none, dims_more}
use Rattle.mo_values.proofs.chains.last_matrix_factor.Goals as goal

pub loop-j-init : goal.loop-j-init
loop-j-init c = (split_none c.args.factors.now, dims_none c.args.factors.now)

pub loop-j-preserved : goal.loop-j-preserved
loop-j-preserved c =
    let test = c.loop-j-test.true in
    let within = c.requires in
    let small : c.loop-j.j < length c.args.factors.now = omega arith in
    rw (c.latest-last.ensures, c.is_matrix_factor.ensures, c.in_ok-dims.ensures, c.in_ok-shape.ensures) (
      split_more c.args.factors.now c.loop-j.j c.loop-j.last c.loop-j.dims c.index-factors-j.result small c.index-factors-j.is c.loop-j.invariant.1 c.loop-j.invariant.0,
      dims_more c.args.factors.now c.loop-j.j c.loop-j.dims c.index-factors-j.result small c.index-factors-j.is c.loop-j.invariant.1,
    )
