use Rattle.mo_typing.proofs.Lists.{subscripted_step}
use Rattle.mo_typing.proofs.extents.subscripted.Goals as goal

pub loop-k-preserved : goal.loop-k-preserved
loop-k-preserved c =
    subscripted_step c.loop-k.made c.push_kept.new.made c.args.subs.now c.args.dims.now c.loop-k.k _ c.loop-k-test.true c.in_ok-push_kept.ensures c.loop-k.invariant
