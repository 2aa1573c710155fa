-- The flow of one variable.
use Rattle.std.proofs.Common.{sym}
use Rattle.mo_equations.proofs.Flowing.{put_is}
use Rattle.mo_equations.proofs.whole.put_flow.Goals as goal

pub returns : goal.returns
returns c =
    let is = put_is c.args._s.now c.args.leaves.now c.args.k c.in-Some.variable.now c.in-Some-get.flow.now c.requires (sym c.in-Some.ensures) (sym c.in-Some-get.ensures) in
    rw is c.push_flow.ensures
